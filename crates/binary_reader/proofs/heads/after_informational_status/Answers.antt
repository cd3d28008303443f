use Rattle.std.proofs.lemmas.Result.{err_from_is_err_and}
use mathlib.Core.Path.{refl, sym}
use Rattle.binary_reader.proofs.HeadLaws.{informational-no, informational-states, informational-ends}
use Rattle.binary_reader.proofs.heads.after_informational_status.Goals as goal

pub returns-in_err-end : goal.returns-in_err-end
returns-in_err-end c = let p = err_from_is_err_and c.from_residual.result c.from_residual.ensures.1 in rw (p.1, p.2) (informational-no c.args.s.now _ _ _ c.in_err-end.ensures refl)

pub returns-in_err-nothing_stated : goal.returns-in_err-nothing_stated
returns-in_err-nothing_stated c = let p = err_from_is_err_and c.from_residual-in_err-nothing_stated.result c.from_residual-in_err-nothing_stated.ensures.1 in rw (p.1, p.2) (informational-states c.args.s.now _ _ _ c.in_ok-end.ensures c.requires.0 c.requires.3 refl (sym c.in_err-nothing_stated.ensures))

pub returns : goal.returns
returns c = informational-ends c.args.s.now _ _ _ c.in_ok-end.ensures c.requires.0 c.requires.3 refl (sym c.in_ok-nothing_stated.ensures)
