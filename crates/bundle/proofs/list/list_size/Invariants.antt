use Rattle.bundle.proofs.Lists.{Passing, Sizing}
use Rattle.bundle.proofs.list.list_size.Given as goal

abbrev pub invariant-loop-i : goal.invariant-loop-i
invariant-loop-i l = Passing l.s l.count l._i l.at × Sizing l.flock l.s l._i l.at l.size
