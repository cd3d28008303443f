use Rattle.octets.proofs.Kit.{kit}
use Rattle.messages.specs.Valid.{is_scheme}
use Rattle.messages.proofs.parts.is_scheme.Goals as goal

pub returns : goal.returns
unfolding is_scheme
returns c = search kit
