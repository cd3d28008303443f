use Rattle.std.proofs.lemmas.Result.{err_from_is_err_and}
use mathlib.Core.Path.{refl}
use Rattle.binary_reader.proofs.ResponseLaws.{final-refused, final-bad, final-read}
use Rattle.binary_reader.proofs.response.after_final.Goals as goal

pub returns-in_err-judged : goal.returns-in_err-judged
returns-in_err-judged c = let p = err_from_is_err_and c.from_residual.result c.from_residual.ensures.1 in rw (p.1, p.2) (final-refused c.args.told c.args.s.now _ c.args.heads c.in_err-judged.ensures refl)

pub returns-in_err-rest : goal.returns-in_err-rest
returns-in_err-rest c = let p = err_from_is_err_and c.from_residual-in_err-rest.result c.from_residual-in_err-rest.ensures.1 in rw (p.1, p.2) (final-bad c.args.told c.args.s.now _ c.args.heads c.in_ok-judged.ensures refl c.in_err-rest.ensures refl)

pub returns : goal.returns
returns c = final-read c.args.told c.args.s.now _ c.args.heads c.in_ok-judged.ensures refl c.in_ok-rest.ensures refl c.response_counted.ensures
