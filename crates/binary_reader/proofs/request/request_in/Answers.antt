use Rattle.std.proofs.lemmas.Result.{err_from_is_err_and}
use mathlib.Core.Path.{refl}
use Rattle.binary_parts.proofs.Controls.{control-no, control-done}
use Rattle.binary_reader.proofs.RequestLaws.{requested-as, control-refused, control-then}
use Rattle.binary_reader.proofs.request.request_in.Goals as goal

pub returns-in_err-control : goal.returns-in_err-control
returns-in_err-control c = let p = err_from_is_err_and c.from_residual.result c.from_residual.ensures.1 in rw (p.1, p.2) (control-refused c.args.s.now _ _ (control-no c.in_err-control.ensures refl))

pub returns : goal.returns
returns c = requested-as (control-then c.args.s.now _ _ (control-done c.in_ok-control.ensures refl).taken) c.after_control.ensures
