use borrow.Author.Tests.{le-leb}
use Rattle.output.proofs.Room.{puts, puts-part, puts_then}
use Rattle.http1_writer.specs.Write.{request_line}
use Rattle.http1_writer.proofs.heads.put_request_line.Goals as goal

pub returns : goal.returns
unfolding request_line
returns c = puts_then (puts_then (puts_then (puts_then (puts-part (le-leb _ _ c.requires.0) c.put_part-a.ensures) (puts c.put_octet-b.ensures)) (λ h. c.put_path-d.ensures)) (puts c.put_text-e.ensures)) (puts c.put_text.ensures) c.requires.2
