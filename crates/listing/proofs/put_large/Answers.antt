use mathlib.Core.Path.{refl, sym, ◌∙◌}
use native.Mathlib.Omega.{arith}
use Rattle.listing.proofs.Laws.{end-length, titled-small, titled-done}
use Rattle.listing.proofs.put_large.Goals as goal

pub returns-then-out-n : goal.returns-then-out-n
returns-then-out-n c = rw c.at.ensures (titled-small refl (end-length _ _ ∙ sym c.end_size-n.ensures.0) c.if-out-n.true)

pub returns : goal.returns
returns c = titled-done refl (omega (arith, c.end_size-n.ensures.0, c.if-out-n.false)) c.put_title-a.ensures c.put_end-b.ensures
