use native.Mathlib.Omega.{arith}
use Rattle.output.proofs.Laws.{put_count}
use Rattle.output.proofs.Room.{puts, puts_then}
use Rattle.listing.specs.Listing.{end_line}
use Rattle.listing.proofs.put_end.Goals as goal

pub returns : goal.returns
unfolding end_line
returns c = put_count (omega arith) (puts_then (puts_then (puts_then (puts c.put_text-a.ensures) (λ _. c.put_column-b.ensures)) (puts c.put_decimal-d.ensures)) (puts c.put_octet.ensures) (omega (arith, c.requires)))
