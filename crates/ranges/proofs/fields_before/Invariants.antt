use Prim.Native.Nat.{◌*◌, ◌≤◌}
use mathlib.Core.Path.{◌≡◌}
use Rattle.ranges.specs.Entries.{fields_before}
use Rattle.ranges.proofs.fields_before.Given as goal

abbrev pub invariant-loop-i : goal.invariant-loop-i
invariant-loop-i l = (l.k ≤ l.i * 4294967296) × (l.k ≡ fields_before l.heads l.i)
