use Rattle.octets.proofs.Kit.{kit}
use Rattle.http1_lines.proofs.RequestTargets.{absolute-good, absolute-scheme, absolute-large}
use Rattle.http1_lines.proofs.targets.absolute_path.Goals as goal

pub returns-then-k-scheme : goal.returns-then-k-scheme
returns-then-k-scheme c = search (kit, absolute-good)

pub returns-then-len-prefix_len : goal.returns-then-len-prefix_len
returns-then-len-prefix_len c = search (kit, absolute-scheme)

pub returns : goal.returns
returns c = search (kit, absolute-large)
