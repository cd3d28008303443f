use Rattle.octets.proofs.Kit.{kit}
use Rattle.messages.specs.Control.{status_verdict}
use Rattle.messages.proofs.parts.status_verdict.Goals as goal

pub returns-then-n-lt100 : goal.returns-then-n-lt100
unfolding status_verdict
returns-then-n-lt100 c = search kit

pub returns-then-n-gt599 : goal.returns-then-n-gt599
unfolding status_verdict
returns-then-n-gt599 c = search kit

pub returns-then-n-eq101 : goal.returns-then-n-eq101
unfolding status_verdict
returns-then-n-eq101 c = search kit

pub returns : goal.returns
unfolding status_verdict
returns c = search kit
