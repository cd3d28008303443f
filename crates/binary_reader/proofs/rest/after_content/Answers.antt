use Rattle.std.proofs.lemmas.Result.{err_from_is_err_and}
use mathlib.Core.Path.{refl}
use Rattle.binary_reader.proofs.RestLaws.{behind-no, behind-padding, behind-done}
use Rattle.binary_reader.proofs.rest.after_content.Goals as goal

pub returns-in_err-end : goal.returns-in_err-end
returns-in_err-end c = let p = err_from_is_err_and c.from_residual.result c.from_residual.ensures.1 in rw (p.1, p.2) (behind-no c.args.s.now c.args.content _ _ c.in_err-end.ensures refl)

pub returns-in_err-check_padding : goal.returns-in_err-check_padding
returns-in_err-check_padding c = let p = err_from_is_err_and c.from_residual-in_err-check_padding.result c.from_residual-in_err-check_padding.ensures.1 in rw (p.1, p.2) (behind-padding c.args.s.now c.args.content _ _ c.in_ok-end.ensures refl c.in_err-check_padding.ensures refl)

pub returns : goal.returns
returns c = behind-done c.args.s.now c.args.content _ _ c.in_ok-end.ensures refl c.in_ok-check_padding.ensures refl
