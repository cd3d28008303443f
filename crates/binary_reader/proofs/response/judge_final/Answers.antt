use Rattle.std.proofs.lemmas.Result.{err_from_is_err_and}
use mathlib.Core.Path.{sym, ◌∙◌}
use Rattle.binary_reader.proofs.ResponseLaws.{final-stated, final-bodyless, final-clashes, final-states}
use Rattle.binary_reader.proofs.response.judge_final.Goals as goal

pub returns-in_err-bodyless_rule : goal.returns-in_err-bodyless_rule
returns-in_err-bodyless_rule c = let p = err_from_is_err_and c.from_residual.result c.from_residual.ensures.1 in rw (p.1, p.2) (final-stated _ _ _ _ (sym c.ends_at_head.ensures ∙ c.if-ends_at_head.true) (sym c.in_err-bodyless_rule.ensures))

pub returns-in_ok-bodyless_rule : goal.returns-in_ok-bodyless_rule
returns-in_ok-bodyless_rule c = final-bodyless _ _ _ _ (sym c.ends_at_head.ensures ∙ c.if-ends_at_head.true) (sym c.in_ok-bodyless_rule.ensures) c.stated_in.ensures

pub returns-then-is_clashing : goal.returns-then-is_clashing
returns-then-is_clashing c = final-clashes _ _ _ _ (sym c.ends_at_head.ensures ∙ c.if-ends_at_head.false) c.at.ensures (sym c.is_clashing.ensures ∙ c.if-is_clashing.true)

pub returns-else-is_clashing : goal.returns-else-is_clashing
returns-else-is_clashing c = final-states _ _ _ _ (sym c.ends_at_head.ensures ∙ c.if-ends_at_head.false) (sym c.is_clashing.ensures ∙ c.if-is_clashing.false)
