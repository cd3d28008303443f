use borrow.Author.Tests.{le-leb}
use Rattle.output.proofs.Room.{puts, puts-part, puts_then}
use Rattle.http1_writer.specs.Write.{field_text, host_field}
use Rattle.http1_writer.proofs.heads.put_host.Goals as goal

pub returns : goal.returns
unfolding field_text host_field
returns c = puts_then (puts_then (puts c.put_text-a.ensures) (puts-part (le-leb _ _ c.requires.0) c.put_part-b.ensures)) (puts c.put_text.ensures) c.requires.1
