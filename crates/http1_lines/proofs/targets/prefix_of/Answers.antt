use Rattle.octets.proofs.Kit.{kit}
use Rattle.http1_lines.proofs.RequestTargets.{prefix-nothing, prefix-query, prefix-asterisk, prefix-slash}
use Rattle.http1_lines.proofs.targets.prefix_of.Goals as goal

pub returns-then-w-e-eq47 : goal.returns-then-w-e-eq47
returns-then-w-e-eq47 c = search (kit, prefix-nothing)

pub returns-then-e-w : goal.returns-then-e-w
returns-then-e-w c = search (kit, prefix-query)

pub returns-then-options : goal.returns-then-options
returns-then-options c = search (kit, prefix-asterisk)

pub returns : goal.returns
returns c = search (kit, prefix-slash)
