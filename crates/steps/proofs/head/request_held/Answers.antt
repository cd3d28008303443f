use Rattle.steps.proofs.Picks.{request-kept}
use Rattle.steps.proofs.head.request_held.Goals as goal

pub returns : goal.returns
returns c = request-kept _ _ _ _ c.hold_target.ensures c.control_of-c.ensures c.next_line-p.ensures c.no_notes-notes.ensures c.with_control-s.ensures c.in_section-q.ensures c.begin_line.ensures
