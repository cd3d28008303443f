use mathlib.Core.Path.{refl}
use Rattle.flock_table.specs.Table as spec
use Rattle.flock_table.proofs.plus.Goals as goal

pub returns : goal.returns
unfolding spec.plus spec.sum
returns c = refl
