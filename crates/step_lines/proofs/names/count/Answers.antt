use native.Mathlib.Omega.{arith}
use Prim.Native.Nat.{◌-◌}
use Rattle.step_lines.proofs.Counting.{count-more, count_none}
use Rattle.step_lines.proofs.names.count.Goals as goal

pub loop-i-preserved : goal.loop-i-preserved
loop-i-preserved c = (count-more _ _ c.find-e.ensures.0 c.loop-i-test.true _ _ c.loop-i.invariant.0 c.worth_of-n.ensures.0, omega (arith, c.loop-i.invariant.1, c.worth_of-n.ensures.1, c.find-e.ensures.0))

pub returns : goal.returns
returns c = count_none _ _ _ _ c.loop-i-test.false c.loop-i.invariant.0
