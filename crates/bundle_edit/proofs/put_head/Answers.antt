use mathlib.Core.Path.{refl}
use Rattle.numbers.specs.Places.{push}
use Rattle.bundle.specs.Bundle.{head_octets}
use Rattle.bundle_edit.proofs.put_head.Goals as goal

pub returns : goal.returns
unfolding head_octets push
returns c = refl
