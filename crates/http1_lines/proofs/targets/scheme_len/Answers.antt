use Rattle.octets.proofs.Kit.{kit}
use Rattle.http1_lines.proofs.RequestTargets.{scheme-http, scheme-https, scheme-none}
use Rattle.http1_lines.proofs.targets.scheme_len.Goals as goal

pub returns-then-starts_with : goal.returns-then-starts_with
returns-then-starts_with c = scheme-http _ c.starts_with.ensures c.if-starts_with.true

pub returns-then-starts_with-2 : goal.returns-then-starts_with-2
returns-then-starts_with-2 c = scheme-https _ c.starts_with.ensures c.if-starts_with.false c.starts_with-2.ensures c.if-starts_with-2.true

pub returns : goal.returns
returns c = (scheme-none _ c.starts_with.ensures c.if-starts_with.false c.starts_with-2.ensures c.if-starts_with-2.false, search kit)
