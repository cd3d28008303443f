use native.Mathlib.Omega.{arith}
use Rattle.output.proofs.Laws.{put_then, put_count}
use Rattle.output.proofs.Room.{puts}
use Rattle.binary_writer.proofs.Lengths.{counted_is}
use Rattle.output.proofs.Laws.{put_as}
use mathlib.Core.Path.{refl}
use Rattle.binary_writer.proofs.put.put_content.Goals as goal

pub returns : goal.returns
returns c = put_as (counted_is _ _ c.requires.1, refl) (put_count (omega (arith, c.requires.1)) (put_then (puts c.put_int-a.ensures (omega (arith, c.requires.3))) c.put_chunks.ensures))
