use Rattle.std.proofs.lemmas.Result.{err_from_is_err_and}
use mathlib.Core.Path.{refl}
use Rattle.binary_reader.proofs.RequestLaws.{rest-wrong, rest-bad, rest-good}
use Rattle.binary_reader.proofs.request.after_head.Goals as goal

pub returns-in_err-authority : goal.returns-in_err-authority
returns-in_err-authority c = let p = err_from_is_err_and c.from_residual.result c.from_residual.ensures.1 in rw (p.1, p.2) (rest-wrong c.args.s.now _ c.args.control c.args.head c.in_err-authority.ensures refl)

pub returns-in_err-rest : goal.returns-in_err-rest
returns-in_err-rest c = let p = err_from_is_err_and c.from_residual-in_err-rest.result c.from_residual-in_err-rest.ensures.1 in rw (p.1, p.2) (rest-bad c.args.s.now _ c.args.control c.args.head c.in_ok-authority.ensures refl c.in_err-rest.ensures refl)

pub returns : goal.returns
returns c = rest-good c.args.s.now _ c.args.control c.args.head c.in_ok-authority.ensures refl c.in_ok-rest.ensures refl c.requires.2 c.request_counted.ensures
