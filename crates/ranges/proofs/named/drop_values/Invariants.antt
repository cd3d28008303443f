use Rattle.ranges.proofs.Dropping.{ValuesLeft}
use Rattle.ranges.proofs.named.drop_values.Given as goal

abbrev pub invariant-loop-i : goal.invariant-loop-i
invariant-loop-i l = ValuesLeft l.s l.initial.out l.base l.count l.connections l.i l.out l.k
