use Rattle.bundle.proofs.Lists.{Passing}
use Rattle.bundle_edit.proofs.Counting.{Counting}
use Rattle.bundle_edit.proofs.tables.count_entries.Given as goal

abbrev pub invariant-loop-i : goal.invariant-loop-i
invariant-loop-i l = Passing l.s l.count l._i l.at × Counting l.s l.all l._i l.at l.counts
