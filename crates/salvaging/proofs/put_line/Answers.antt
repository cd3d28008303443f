use native.Mathlib.Omega.{arith}
use Rattle.output.proofs.Laws.{put_count}
use Rattle.output.proofs.Room.{puts, puts_then}
use Rattle.salvaging.proofs.put_line.Goals as goal

pub returns : goal.returns
returns c = put_count (omega arith) (puts_then (puts_then (puts_then (puts_then c.put_labelled-a.ensures c.put_labelled-b.ensures) c.put_labelled-d.ensures) c.put_labelled-e.ensures) (puts c.put_octet.ensures) (omega (arith, c.requires)))
