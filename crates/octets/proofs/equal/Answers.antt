use mathlib.Core.Path.{◌∙◌}
use Rattle.octets.proofs.Lists.{pointwise-same}
use Rattle.octets.proofs.equal.Goals as goal

pub returns : goal.returns
returns c = c.eq.ensures ∙ pointwise-same _ _
