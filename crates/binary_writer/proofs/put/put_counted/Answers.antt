use borrow.Author.Tests.{le-leb}
use Rattle.output.proofs.Room.{puts, puts-part, puts_then}
use Rattle.binary_writer.proofs.Lengths.{counted_is, part_length}
use Rattle.output.proofs.Laws.{put_as}
use mathlib.Core.Path.{refl}
use Rattle.binary_writer.proofs.put.put_counted.Goals as goal

pub returns : goal.returns
returns c = put_as (counted_is _ _ (part_length _ _ _), refl) (puts_then (puts c.put_int-a.ensures) (puts-part (le-leb _ _ c.requires.1) c.put_part.ensures) c.requires.2)
