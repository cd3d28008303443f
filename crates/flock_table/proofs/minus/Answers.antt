use mathlib.Core.Path.{refl}
use Rattle.flock_table.specs.Table as spec
use Rattle.flock_table.proofs.minus.Goals as goal

pub returns : goal.returns
unfolding spec.minus spec.difference
returns c = refl
