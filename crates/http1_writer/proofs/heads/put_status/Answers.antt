use Rattle.output.proofs.Room.{puts, puts_then}
use Rattle.http1_writer.specs.Write.{status_line}
use Rattle.http1_writer.proofs.heads.put_status.Goals as goal

pub returns : goal.returns
unfolding status_line
returns c = puts_then (puts_then (puts_then (puts c.put_text-a.ensures) (puts c.put_decimal-b.ensures)) (puts c.put_octet-d.ensures)) (puts c.put_text.ensures) c.requires
