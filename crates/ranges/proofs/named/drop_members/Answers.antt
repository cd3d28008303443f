use Prim.Native.Nat.{◌-◌}
use Rattle.ranges.proofs.Dropping.{members-start, members-more, members-done, member-part}
use Rattle.ranges.proofs.named.drop_members.Goals as goal

pub loop-m-init : goal.loop-m-init
loop-m-init c = members-start c.args.s.now c.args.value.now c.args.out.now c.args.base c.args.count c.requires

pub returns-then-value-m : goal.returns-then-value-m
returns-then-value-m c = members-done c.args.s.now c.args.value.now c.args.out.now c.args.base c.args.count c.loop-m.invariant c.member_at-m.ensures (member-part c.args.value.now c.member_at-m.result.start c.member_at-m.result.len) c.drop_member-k.ensures c.if-value-m.true

pub loop-m-preserved : goal.loop-m-preserved
loop-m-preserved c = members-more c.args.s.now c.args.value.now c.args.out.now c.args.base c.args.count c.loop-m.invariant c.member_at-m.ensures (member-part c.args.value.now c.member_at-m.result.start c.member_at-m.result.len) c.drop_member-k.ensures c.if-value-m.false
