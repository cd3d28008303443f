use Rattle.octets.proofs.Kit.{kit}
use Rattle.messages.specs.Told.{is_edition}
use Rattle.messages.proofs.call.is_edition.Goals as goal

pub returns : goal.returns
unfolding is_edition
returns c = search kit
