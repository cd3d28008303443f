use Rattle.std.proofs.lemmas.Result.{err_from_is_err_and}
use native.Mathlib.Omega.{arith}
use mathlib.Core.Path.{refl}
use Rattle.binary_reader.proofs.HeadTurns.{heads-start, heads-final, heads-refused, final-some, informational-some, heads-next}
use Rattle.binary_reader.proofs.heads.read_heads.Goals as goal

pub loop-status-init : goal.loop-status-init
loop-status-init c = (refl, refl, heads-start _ _ _ _ _ c.requires.3)

pub overflow_sub-result : goal.overflow_sub-result
overflow_sub-result c = omega (arith, final-some c.loop-status.invariant.2 c.in_ok-status.ensures c.in-Final.is)

pub returns-in-Final : goal.returns-in-Final
returns-in-Final c = heads-final c.loop-status.invariant.2 c.in_ok-status.ensures c.in-Final.is

pub returns-in_err-status : goal.returns-in_err-status
returns-in_err-status c = let p = err_from_is_err_and c.from_residual.result c.from_residual.ensures.1 in rw (p.1, p.2) (heads-refused c.loop-status.invariant.2 c.in_err-status.ensures _)

pub overflow_cast-kept : goal.overflow_cast-kept
overflow_cast-kept c = omega (arith, informational-some c.loop-status.invariant.2 c.in_ok-status.ensures c.in-Informational.is)

pub overflow_sub-kept : goal.overflow_sub-kept
overflow_sub-kept c = omega (arith, informational-some c.loop-status.invariant.2 c.in_ok-status.ensures c.in-Informational.is)

pub store-requires : goal.store-requires
store-requires c = omega (arith, informational-some c.loop-status.invariant.2 c.in_ok-status.ensures c.in-Informational.is, c.loop-status.invariant.1, c.requires.2)

pub loop-status-preserved : goal.loop-status-preserved
loop-status-preserved c = (omega arith, omega arith, heads-next c.loop-status.invariant.2 c.in_ok-status.ensures c.in-Informational.is c.store.ensures)
