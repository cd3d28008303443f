use Rattle.octets.proofs.Kit.{kit}
use Rattle.messages.specs.Control.{is_informational}
use Rattle.messages.proofs.parts.is_informational.Goals as goal

pub returns : goal.returns
unfolding is_informational
returns c = search kit
