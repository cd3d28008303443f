use Rattle.messages.proofs.Picks.{by-table}
use Rattle.http1_lines.proofs.RequestTargets.{absolute-octets, absolute-host, absolute-on}
use Rattle.http1_lines.proofs.targets.absolute_target.Goals as goal

pub returns-then-is_host : goal.returns-then-is_host
returns-then-is_host c = λ h. absolute-on _ _ _ _ (by-table h _ _ c.all_of.ensures) c.if-all_of.true c.authority_end-e.ensures.0 (c.is_host.ensures h) c.if-is_host.true c.absolute_path.ensures

pub returns-else-is_host : goal.returns-else-is_host
returns-else-is_host c = λ h. absolute-host _ _ _ _ (by-table h _ _ c.all_of.ensures) c.if-all_of.true c.authority_end-e.ensures.0 (c.is_host.ensures h) c.if-is_host.false

pub returns : goal.returns
returns c = λ h. absolute-octets _ _ _ _ (by-table h _ _ c.all_of.ensures) c.if-all_of.false
