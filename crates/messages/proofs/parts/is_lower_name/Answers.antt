use Rattle.octets.specs.Text.{is_empty}
use Rattle.octets.proofs.Texts.{all_in}
use Rattle.messages.specs.Control.{is_lower_name}
use Rattle.messages.proofs.Picks.{picks}
use Rattle.messages.proofs.parts.is_lower_name.Goals as goal

pub returns-then-n-eq0 : goal.returns-then-n-eq0
unfolding is_lower_name is_empty
returns-then-n-eq0 c = λ h. search picks

pub returns : goal.returns
unfolding is_lower_name is_empty
returns c = λ h. let e = c.all_lower_of.ensures in let g = rw (all_in h) at e in search (picks, g)
