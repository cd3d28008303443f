use Rattle.ranges.proofs.Dropping.{LeftTo}
use Rattle.ranges.proofs.named.drop_member.Given as goal

abbrev pub invariant-loop-i : goal.invariant-loop-i
invariant-loop-i l = LeftTo l.s l.name l.initial.out l.base l.i l.out l.k
