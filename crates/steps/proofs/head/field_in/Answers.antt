use Rattle.steps.proofs.Picks.{field-empty, field-many, field-bad, field-good, field-size}
use Rattle.steps.proofs.head.field_in.Goals as goal

pub returns-then-n-eq0 : goal.returns-then-n-eq0
returns-then-n-eq0 c = field-empty _ _ c.text_len-n.ensures c.if-n-eq0.true c.head_end.ensures

pub returns-then-st-ge-LINES : goal.returns-then-st-ge-LINES
returns-then-st-ge-LINES c = field-many _ _ c.text_len-n.ensures c.if-n-eq0.false c.if-st-ge-LINES.true c.refused.ensures

pub field_held-requires : goal.field_held-requires
field_held-requires c = (c.requires.0, c.requires.1, c.requires.2, (field-size c.args.st c.args.room.now c.text_len-n.ensures c.if-n-eq0.false (c.field_line.ensures c.class_table-t.ensures) _ _ _ c.in-Some.is).0, (field-size c.args.st c.args.room.now c.text_len-n.ensures c.if-n-eq0.false (c.field_line.ensures c.class_table-t.ensures) _ _ _ c.in-Some.is).1)

pub returns-in-Some : goal.returns-in-Some
returns-in-Some c = field-good _ _ c.text_len-n.ensures c.if-n-eq0.false c.if-st-ge-LINES.false (c.field_line.ensures c.class_table-t.ensures) _ _ _ c.in-Some.is c.field_held.ensures

pub returns-in-None : goal.returns-in-None
returns-in-None c = field-bad _ _ c.text_len-n.ensures c.if-n-eq0.false c.if-st-ge-LINES.false (c.field_line.ensures c.class_table-t.ensures) c.in-None.is c.refused-in-None.ensures
