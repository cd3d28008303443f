use native.Mathlib.Omega.{arith}
use mathlib.Core.Path.{sym, ◌∙◌}
use Rattle.http1_lines.proofs.Views.{field-within}
use Rattle.steps.proofs.Picks.{trailer-empty, trailer-many, trailer-bad, trailer-good}
use Rattle.steps.proofs.body.trailer_in.Goals as goal

pub returns-then-text_len-eq0 : goal.returns-then-text_len-eq0
returns-then-text_len-eq0 c = trailer-empty _ _ c.text_len.ensures c.if-text_len-eq0.true c.trailers_end.ensures

pub returns-then-st-ge-LINES : goal.returns-then-st-ge-LINES
returns-then-st-ge-LINES c = trailer-many _ _ c.text_len.ensures c.if-text_len-eq0.false c.if-st-ge-LINES.true c.refused.ensures

pub trailer_held-requires : goal.trailer_held-requires
trailer_held-requires c = (c.requires.0, c.requires.1, omega (arith, field-within _ _ _ _ (sym (c.field_line.ensures c.class_table-t.ensures) ∙ c.in-Some.is)), (field-within _ _ _ _ (sym (c.field_line.ensures c.class_table-t.ensures) ∙ c.in-Some.is)).2, omega (arith, c.requires.2, c.requires.0.count, c.requires.0.size))

pub returns-in-Some : goal.returns-in-Some
returns-in-Some c = trailer-good _ _ c.text_len.ensures c.if-text_len-eq0.false c.if-st-ge-LINES.false _ _ _ (sym (c.field_line.ensures c.class_table-t.ensures) ∙ c.in-Some.is) c.trailer_held.ensures

pub returns-in-None : goal.returns-in-None
returns-in-None c = trailer-bad _ _ c.text_len.ensures c.if-text_len-eq0.false c.if-st-ge-LINES.false (sym (c.field_line.ensures c.class_table-t.ensures) ∙ c.in-None.is) c.refused-in-None.ensures
