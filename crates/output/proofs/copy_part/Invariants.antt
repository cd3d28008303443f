use mathlib.Core.Path.{◌≡◌}
use Prim.Native.Nat.{◌+◌, ◌-◌, ◌≤◌}
use lib.ListN.{length}
use Rattle.output.specs.Splice.{splice, part}
use Rattle.output.proofs.copy_part.Given as goal

abbrev pub invariant-loop-i : goal.invariant-loop-i
invariant-loop-i l = (l.i ≤ l.len) × (length l.out ≡ length l.initial.out)
    × (splice l.out (l.at + l.i) (part l.src (l.from + l.i) (l.len - l.i)) ≡ splice l.initial.out l.at (part l.src l.from l.len))
