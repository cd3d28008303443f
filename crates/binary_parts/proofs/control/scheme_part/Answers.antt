use Rattle.std.proofs.lemmas.Result.{err_from_is_err_and}
use mathlib.Core.Path.{refl, sym, ◌∙◌}
use Rattle.binary_parts.proofs.Judged.{scheme-no, scheme-http, scheme-https, scheme-other}
use Rattle.binary_parts.proofs.control.scheme_part.Goals as goal

pub returns-in_err-part : goal.returns-in_err-part
returns-in_err-part c = let p = err_from_is_err_and c.from_residual.result c.from_residual.ensures.1 in rw (p.1, p.2) (scheme-no c.args.s.now _ c.in_err-part.ensures refl)

pub returns-then-equal : goal.returns-then-equal
returns-then-equal c = scheme-http c.args.s.now _ c.in_ok-part.ensures refl (sym c.equal.ensures ∙ c.if-equal.true)

pub returns-then-equal-2 : goal.returns-then-equal-2
returns-then-equal-2 c = scheme-https c.args.s.now _ c.in_ok-part.ensures refl (sym c.equal.ensures ∙ c.if-equal.false) (sym c.equal-else-equal.ensures ∙ c.if-equal-2.true)

pub returns-else-equal-2 : goal.returns-else-equal-2
returns-else-equal-2 c = scheme-other c.args.s.now _ c.in_ok-part.ensures refl (sym c.equal.ensures ∙ c.if-equal.false) c.at.ensures (sym c.equal-else-equal.ensures ∙ c.if-equal-2.false)
