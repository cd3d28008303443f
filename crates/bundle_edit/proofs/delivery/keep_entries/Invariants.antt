use lib.ListN.{take}
use Rattle.bundle.proofs.Lists.{Passing}
use Rattle.bundle_edit.proofs.Sweeping.{Keeps}
use Rattle.bundle_edit.proofs.delivery.keep_entries.Given as goal

abbrev pub invariant-loop-i : goal.invariant-loop-i
invariant-loop-i l = Passing (take l.used l.initial.buf) l.count l._i l.at × Keeps l.initial.buf l.used l.buf l._i l.at l.end
