use Prim.Native.Nat.{◌-◌}
use mathlib.Core.Path.{◌≡◌}
use lib.ListN.{length}
use Rattle.bundle.proofs.Walks.{Walking}
use Rattle.bundle.proofs.reader.walk_into.Given as goal

abbrev pub invariant-loop-number : goal.invariant-loop-number
invariant-loop-number l = (length l.scratch ≡ length l.initial.scratch) × Walking l.s l.initial.out l.out l.count l.at

abbrev pub decreases-loop-number : goal.decreases-loop-number
decreases-loop-number l = length l.s - l.at
