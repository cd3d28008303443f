use Rattle.steps.proofs.Picks.{trailer-line}
use Rattle.steps.proofs.body.trailer_noted.Goals as goal

pub returns : goal.returns
returns c = trailer-line _ _ _ c.is_end_to_end.ensures c.with_trailer-t.ensures c.next_line-l.ensures c.with_tally-s.ensures c.in_section-r.ensures c.begin_line.ensures
