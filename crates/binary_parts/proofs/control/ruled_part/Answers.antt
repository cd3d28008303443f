use Rattle.std.proofs.lemmas.Result.{err_from_is_err_and}
use mathlib.Core.Path.{refl}
use Rattle.binary_parts.proofs.Judged.{ruled-no, ruled-good, ruled-bad}
use Rattle.binary_parts.proofs.control.ruled_part.Goals as goal

pub returns-in_err-read : goal.returns-in_err-read
returns-in_err-read c = let p = err_from_is_err_and c.from_residual.result c.from_residual.ensures.1 in rw (p.1, p.2) (ruled-no c.args.s.now _ _ _ c.most_of.ensures c.in_err-read.ensures refl)

pub returns-in-Ok : goal.returns-in-Ok
returns-in-Ok c = ruled-good c.args.s.now _ _ _ c.most_of.ensures c.in_ok-read.ensures refl c.verdict_of.ensures c.in-Ok.is

pub returns-in-Err : goal.returns-in-Err
returns-in-Err c = ruled-bad c.args.s.now _ _ _ c.most_of.ensures c.in_ok-read.ensures refl c.verdict_of.ensures c.at.ensures c.in-Err.is
