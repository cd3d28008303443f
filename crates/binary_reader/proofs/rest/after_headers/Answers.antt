use Rattle.std.proofs.lemmas.Result.{err_from_is_err_and}
use mathlib.Core.Path.{refl}
use Rattle.binary_reader.proofs.RestLaws.{rested-no, rested-bad, rested-on}
use Rattle.binary_reader.proofs.rest.after_headers.Goals as goal

pub returns-in_err-content : goal.returns-in_err-content
returns-in_err-content c = let p = err_from_is_err_and c.from_residual.result c.from_residual.ensures.1 in rw (p.1, p.2) (rested-no c.args.s.now _ _ _ _ c.in_err-content.ensures refl)

pub returns-then-content_agrees : goal.returns-then-content_agrees
returns-then-content_agrees c = rested-on c.args.s.now _ _ _ _ c.in_ok-content.ensures refl c.content_agrees.ensures c.if-content_agrees.true c.after_content.ensures

pub returns-else-content_agrees : goal.returns-else-content_agrees
returns-else-content_agrees c = rested-bad c.args.s.now _ _ _ _ c.in_ok-content.ensures refl c.content_agrees.ensures c.at.ensures c.if-content_agrees.false
