use borrow.Author.Tests.{le-leb}
use Rattle.messages.specs.Meaning.{field_means}
use Rattle.http1_writer.specs.Write.{field_text}
use Rattle.output.proofs.Room.{puts, puts-part, puts_then}
use Rattle.http1_writer.proofs.sections.put_line.Goals as goal

pub returns : goal.returns
unfolding field_text field_means
returns c = puts_then (puts_then (puts_then (puts-part (le-leb _ _ c.requires.1.name) c.put_lower-a.ensures) (puts c.put_text-b.ensures)) (puts-part (le-leb _ _ c.requires.1.value) c.put_part-d.ensures)) (puts c.put_text.ensures) c.requires.2
