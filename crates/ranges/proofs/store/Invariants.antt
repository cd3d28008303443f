use mathlib.Core.Path.{◌≡◌}
use Prim.Native.Nat.{◌+◌, ◌≤◌}
use lib.ListN.{length, drop}
use Rattle.output.specs.Splice.{splice}
use Rattle.ranges.proofs.store.Given as goal

abbrev pub invariant-loop-i : goal.invariant-loop-i
invariant-loop-i g l = (l.i ≤ length l.all) × (length l.out ≡ length l.initial.out)
    × (splice l.out (l.at + l.i) (drop l.i l.all) ≡ splice l.initial.out l.at l.all)
