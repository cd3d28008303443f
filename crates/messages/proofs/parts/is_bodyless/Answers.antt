use Rattle.octets.proofs.Kit.{kit}
use Rattle.messages.specs.Control.{is_bodyless}
use Rattle.messages.proofs.parts.is_bodyless.Goals as goal

pub returns-then-n-eq204 : goal.returns-then-n-eq204
unfolding is_bodyless
returns-then-n-eq204 c = search kit

pub returns : goal.returns
unfolding is_bodyless
returns c = search kit
