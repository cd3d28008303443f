use Rattle.std.proofs.lemmas.Result.{err_from_is_err_and}
use mathlib.Core.Path.{refl}
use Rattle.binary_parts.proofs.Contents.{known-no, known-none, known-one}
use Rattle.binary_parts.proofs.content.known_content.Goals as goal

pub returns-in_err-part : goal.returns-in_err-part
returns-in_err-part c = let p = err_from_is_err_and c.from_residual.result c.from_residual.ensures.1 in rw (p.1, p.2) (known-no c.args.s.now c.args.from c.in_err-part.ensures refl)

pub returns-then-part-eq0 : goal.returns-then-part-eq0
returns-then-part-eq0 c = known-none c.args.s.now c.args.from c.in_ok-part.ensures refl c.if-part-eq0.true refl

pub returns : goal.returns
returns c = known-one c.args.s.now c.args.from c.in_ok-part.ensures refl c.if-part-eq0.false c.store.ensures
