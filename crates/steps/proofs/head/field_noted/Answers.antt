use Rattle.steps.proofs.Picks.{field-line}
use Rattle.steps.proofs.head.field_noted.Goals as goal

pub returns : goal.returns
returns c = field-line _ _ _ _ _ c.host_at-c.ensures c.next_line-p.ensures c.with_control-s.ensures c.in_section-q.ensures c.begin_line.ensures
