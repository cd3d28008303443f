use Prim.Native.Nat.{◌-◌}
use lib.ListN.{length}
use Rattle.ranges.proofs.Dropping.{MembersLeft}
use Rattle.ranges.proofs.named.drop_members.Given as goal

abbrev pub invariant-loop-m : goal.invariant-loop-m
invariant-loop-m l = MembersLeft l.s l.value l.initial.out l.base l.count l.from l.out l.k

abbrev pub decreases-loop-m : goal.decreases-loop-m
decreases-loop-m l = length l.value - l.from
