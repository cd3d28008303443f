use Rattle.std.proofs.lemmas.Result.{err_from_is_err_and}
use mathlib.Core.Path.{refl}
use Rattle.binary_parts.proofs.Controls.{authority-no, path-no, rest-got}
use Rattle.binary_parts.proofs.control.after_scheme.Goals as goal

pub returns-in_err-authority : goal.returns-in_err-authority
returns-in_err-authority c = let p = err_from_is_err_and c.from_residual.result c.from_residual.ensures.1 in rw (p.1, p.2) (authority-no c.args.s.now _ _ c.requires.0 c.requires.1 c.in_err-authority.ensures refl)

pub returns-in_err-path : goal.returns-in_err-path
returns-in_err-path c = let p = err_from_is_err_and c.from_residual-in_err-path.result c.from_residual-in_err-path.ensures.1 in rw (p.1, p.2) (path-no c.args.s.now _ _ c.requires.0 c.requires.1 c.in_ok-authority.ensures refl c.is_options-options.ensures c.in_err-path.ensures refl)

pub returns : goal.returns
returns c = rest-got c.args.s.now _ _ c.requires.0 c.requires.1 c.in_ok-authority.ensures refl c.is_options-options.ensures c.in_ok-path.ensures refl
