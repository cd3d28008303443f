use mathlib.Core.Path.{refl}
use Rattle.steps.proofs.Picks.{request-size, request-good, request-bad}
use Rattle.steps.proofs.head.request_in.Goals as goal

pub request_held-requires-clause-hostlen_le_start : goal.request_held-requires-clause-hostlen_le_start
request_held-requires-clause-hostlen_le_start c = request-size c.args.st c.args.room.now c.text_len.ensures c.requires.1 c.requires.0.room (c.request_line.ensures c.class_table-t.ensures) _ c.in-Ok.is

pub returns-in-Ok : goal.returns-in-Ok
returns-in-Ok c = request-good _ _ c.text_len.ensures (c.request_line.ensures c.class_table-t.ensures) _ c.in-Ok.is c.request_held.ensures

pub returns-in-Err : goal.returns-in-Err
returns-in-Err c = request-bad _ _ c.text_len.ensures (c.request_line.ensures c.class_table-t.ensures) _ c.in-Err.is c.number.ensures refl c.refused.ensures
