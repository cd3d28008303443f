use Rattle.std.proofs.lemmas.Result.{err_from_is_err_and}
use mathlib.Core.Path.{refl}
use Rattle.binary_parts.proofs.Controls.{method-no, scheme-bad, behind-scheme}
use Rattle.binary_parts.proofs.control.request_control.Goals as goal

pub returns-in_err-method : goal.returns-in_err-method
returns-in_err-method c = let p = err_from_is_err_and c.from_residual.result c.from_residual.ensures.1 in rw (p.1, p.2) (method-no c.args.s.now _ c.in_err-method.ensures refl)

pub returns-in_err-scheme : goal.returns-in_err-scheme
returns-in_err-scheme c = let p = err_from_is_err_and c.from_residual-in_err-scheme.result c.from_residual-in_err-scheme.ensures.1 in rw (p.1, p.2) (scheme-bad c.args.s.now _ c.in_ok-method.ensures refl c.in_err-scheme.ensures refl)

pub returns : goal.returns
returns c = behind-scheme c.args.s.now _ c.in_ok-method.ensures refl c.in_ok-scheme.ensures refl c.after_scheme.ensures
