use Rattle.octets.proofs.Kit.{kit}
use Rattle.http1_lines.proofs.RequestTargets.{target-plain, target-absolute, scheme-some}
use Rattle.http1_lines.proofs.targets.request_target.Goals as goal

pub returns-then-k-eq0 : goal.returns-then-k-eq0
returns-then-k-eq0 c = λ h. search (kit, target-plain, c.plain_target.ensures h)

pub absolute_target-requires : goal.absolute_target-requires
absolute_target-requires c = (scheme-some _ c.scheme_len-k.ensures.0 (search kit), search kit)

pub returns : goal.returns
returns c = λ h. search (kit, target-absolute, c.absolute_target.ensures h)
