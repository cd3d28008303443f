use Prim.Native.Nat.{◌-◌}
use Rattle.step_lines.proofs.Counting.{named-found, named_more, named_none}
use Rattle.step_lines.proofs.names.is_named.Goals as goal

pub returns-then-does_name : goal.returns-then-does_name
returns-then-does_name c = named-found _ _ c.find-e.ensures.0 c.loop-i-test.true _ c.loop-i.invariant c.does_name.ensures c.if-does_name.true

pub loop-i-preserved : goal.loop-i-preserved
loop-i-preserved c = named_more _ _ c.find-e.ensures.0 c.loop-i-test.true _ c.loop-i.invariant c.does_name.ensures c.if-does_name.false

pub returns : goal.returns
returns c = named_none _ _ _ c.loop-i-test.false c.loop-i.invariant
