use Rattle.ranges.proofs.Dropping.{entry-stays}
use mathlib.Core.Path.{refl}
use Rattle.ranges.proofs.named.move_entry.Goals as goal

pub returns : goal.returns
returns c = (entry-stays _ _ _ c.requires.0 c.if-k-i.false, refl)
