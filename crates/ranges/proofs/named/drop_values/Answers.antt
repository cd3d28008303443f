use Prim.Native.Nat.{◌-◌}
use Rattle.ranges.proofs.Dropping.{value-inside, values-turn, values-done}
use Rattle.ranges.proofs.named.drop_values.Goals as goal

pub slice_bounds-drop_members-end : goal.slice_bounds-drop_members-end
slice_bounds-drop_members-end c = value-inside c.args.s.now c.args.out.now c.args.base c.args.count c.args.connections c.requires c.loop-i.invariant c.loop-i-test.true c.number_at-start.ensures.0 c.number_at.ensures.0

pub loop-i-preserved : goal.loop-i-preserved
loop-i-preserved c = values-turn c.args.s.now c.args.out.now c.args.base c.args.count c.args.connections c.requires c.loop-i.invariant c.loop-i-test.true c.number_at-start.ensures.0 c.number_at.ensures.0 c.drop_members-k.ensures

pub returns : goal.returns
returns c = values-done c.args.s.now c.args.out.now c.args.base c.args.count c.args.connections c.requires c.loop-i.invariant c.loop-i-test.false
