use mathlib.Core.Path.{◌≡◌}
use mathlib.Core.List.{map}
use Prim.Native.Nat.{◌+◌, ◌-◌, ◌≤◌}
use lib.ListN.{length}
use Rattle.output.specs.Splice.{splice, part}
use Rattle.octets.specs.Text.{lower_of}
use Rattle.output.proofs.copy_lower.Given as goal

abbrev pub invariant-loop-i : goal.invariant-loop-i
invariant-loop-i l = (l.i ≤ l.len) × (length l.out ≡ length l.initial.out)
    × (splice l.out (l.at + l.i) (map lower_of (part l.src (l.from + l.i) (l.len - l.i))) ≡ splice l.initial.out l.at (map lower_of (part l.src l.from l.len)))
