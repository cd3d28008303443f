use native.Mathlib.Omega.{arith}
use Rattle.output.proofs.Laws.{put_then}
use Rattle.output.proofs.Room.{puts}
use Rattle.binary_writer.proofs.put.put_head.Goals as goal

pub returns : goal.returns
returns c = put_then (puts c.put_int-a.ensures (omega (arith, c.requires.2))) c.put_section.ensures
