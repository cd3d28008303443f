use Rattle.octets.specs.Text.{is_lower}
use Rattle.octets.proofs.is_lower.Goals as goal

pub returns : goal.returns
unfolding is_lower
returns c = search c.lower.ensures
