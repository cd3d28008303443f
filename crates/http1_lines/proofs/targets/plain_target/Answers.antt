use Rattle.octets.proofs.Kit.{kit}
use Rattle.http1_lines.specs.Target.{plain_target}
use Rattle.http1_lines.proofs.RequestTargets.{plain-good, plain-bad}
use Rattle.http1_lines.proofs.targets.plain_target.Goals as goal

pub returns-in_err-path_verdict : goal.returns-in_err-path_verdict
unfolding plain_target
returns-in_err-path_verdict c = λ h. search (kit, plain-bad, c.path_verdict.ensures h)

pub returns : goal.returns
returns c = λ h. search (kit, plain-good, c.path_verdict.ensures h)
