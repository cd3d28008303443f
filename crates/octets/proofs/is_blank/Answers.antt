use Rattle.octets.specs.Class.{is_blank}
use Rattle.octets.proofs.Kit.{kit}
use Rattle.octets.proofs.is_blank.Goals as goal

pub returns-then-b-eq32 : goal.returns-then-b-eq32
unfolding is_blank
returns-then-b-eq32 c = search kit

pub returns-else-b-eq32 : goal.returns-else-b-eq32
unfolding is_blank
returns-else-b-eq32 c = search kit
