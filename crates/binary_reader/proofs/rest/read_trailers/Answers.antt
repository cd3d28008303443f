use Rattle.std.proofs.lemmas.Result.{err_from_is_err_and}
use mathlib.Core.Path.{refl}
use Rattle.binary_reader.proofs.Trailing.{trailers-none, trailers-no, trailers-good, trailers-bad}
use Rattle.binary_reader.proofs.rest.read_trailers.Goals as goal

pub returns-then-s-from : goal.returns-then-s-from
returns-then-s-from c = trailers-none c.args.s.now _ _ _ c.requires.0 c.requires.3 c.if-s-from.true

pub returns-in_err-end : goal.returns-in_err-end
returns-in_err-end c = let p = err_from_is_err_and c.from_residual.result c.from_residual.ensures.1 in rw (p.1, p.2) (trailers-no c.args.s.now _ _ _ c.if-s-from.false c.requires.3 c.in_err-end.ensures refl)

pub returns-then-trailers_agree : goal.returns-then-trailers_agree
returns-then-trailers_agree c = trailers-good c.args.s.now _ _ _ c.if-s-from.false c.requires.3 c.in_ok-end.ensures refl c.trailers_agree.ensures c.if-trailers_agree.true

pub returns-else-trailers_agree : goal.returns-else-trailers_agree
returns-else-trailers_agree c = trailers-bad c.args.s.now _ _ _ c.if-s-from.false c.requires.3 c.in_ok-end.ensures refl c.trailers_agree.ensures c.at.ensures c.if-trailers_agree.false
