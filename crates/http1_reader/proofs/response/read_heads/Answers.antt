use native.Mathlib.Omega.{arith}
use mathlib.Core.Path.{refl}
use Rattle.std.proofs.lemmas.Result.{err_from_is_err_and}
use Rattle.http1_reader.proofs.ResponseTurns.{heads-start, heads-stopped, heads-final, informational-some, heads-next}
use Rattle.http1_reader.proofs.response.read_heads.Goals as goal

pub loop-status-init : goal.loop-status-init
loop-status-init c = (refl, refl, heads-start _ _ _)

pub returns-in_err-status : goal.returns-in_err-status
returns-in_err-status c = let p = err_from_is_err_and c.from_residual.result c.from_residual.ensures.1 in rw (p.1, p.2) (heads-stopped c.loop-status.invariant.2 c.in_err-status.ensures)

pub returns-in-Final : goal.returns-in-Final
returns-in-Final c = heads-final c.loop-status.invariant.2 c.in_ok-status.ensures c.in-Final.is

pub overflow_cast-kept : goal.overflow_cast-kept
overflow_cast-kept c = omega (arith, informational-some c.loop-status.invariant.2 c.in_ok-status.ensures c.in-Informational.is)

pub loop-status-preserved : goal.loop-status-preserved
loop-status-preserved c = (omega arith, omega arith, heads-next c.loop-status.invariant.2 c.in_ok-status.ensures c.in-Informational.is c.store.ensures)
