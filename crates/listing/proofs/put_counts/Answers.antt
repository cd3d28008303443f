use native.Mathlib.Omega.{arith}
use Rattle.output.proofs.Laws.{put_count}
use Rattle.output.proofs.Room.{puts, puts_then}
use Rattle.listing.proofs.put_counts.Goals as goal

pub returns : goal.returns
returns c = put_count (omega arith) (puts_then (puts_then (puts_then (λ _. c.put_column-a.ensures) (λ _. c.put_column-b.ensures)) (puts c.put_decimal-d.ensures)) (puts c.put_octet.ensures) (omega (arith, c.requires)))
