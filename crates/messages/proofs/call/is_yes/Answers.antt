use Rattle.octets.proofs.Kit.{kit}
use Rattle.messages.specs.Told.{is_yes}
use Rattle.messages.proofs.call.is_yes.Goals as goal

pub returns : goal.returns
unfolding is_yes
returns c = search kit
