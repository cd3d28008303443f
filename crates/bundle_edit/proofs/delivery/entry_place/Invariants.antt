use Rattle.bundle.proofs.Lists.{Passing}
use Rattle.bundle_edit.proofs.Sweeping.{Past}
use Rattle.bundle_edit.proofs.delivery.entry_place.Given as goal

abbrev pub invariant-loop-k : goal.invariant-loop-k
invariant-loop-k l = Passing l.s l.count l._k l.at × Past l.s l._k l.at
