use mathlib.Core.Path.{refl}
use Rattle.octets.specs.Table.{classes}
use Rattle.octets.proofs.class_table.Goals as goal

pub returns : goal.returns
unfolding classes
returns c = refl
