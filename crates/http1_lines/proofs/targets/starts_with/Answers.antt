use Rattle.octets.proofs.Kit.{kit}
use Rattle.http1_lines.specs.Target.{starts_with}
use Rattle.http1_lines.proofs.RequestTargets.{starts-short}
use Rattle.http1_lines.proofs.targets.starts_with.Goals as goal

pub returns-then-n-w : goal.returns-then-n-w
unfolding starts_with
returns-then-n-w c = search kit

pub returns : goal.returns
unfolding starts_with
returns c = search (kit, starts-short)
