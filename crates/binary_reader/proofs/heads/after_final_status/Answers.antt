use Rattle.std.proofs.lemmas.Result.{err_from_is_err_and}
use mathlib.Core.Path.{refl}
use Rattle.binary_reader.proofs.HeadLaws.{final-no, final-ends}
use Rattle.binary_reader.proofs.heads.after_final_status.Goals as goal

pub returns-in_err-end : goal.returns-in_err-end
returns-in_err-end c = let p = err_from_is_err_and c.from_residual.result c.from_residual.ensures.1 in rw (p.1, p.2) (final-no c.args.s.now _ _ _ c.in_err-end.ensures refl)

pub returns : goal.returns
returns c = final-ends c.args.s.now _ _ _ c.in_ok-end.ensures c.requires.0 c.requires.4 refl c.requires.3
