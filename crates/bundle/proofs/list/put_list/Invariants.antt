use Rattle.bundle.proofs.Lists.{Passing, Listing}
use Rattle.bundle.proofs.list.put_list.Given as goal

abbrev pub invariant-loop-i : goal.invariant-loop-i
invariant-loop-i l = Passing l.s l.count l._i l.at × Listing l.flock l.s l.initial.out l.out l._i l.at l.o
