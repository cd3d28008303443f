use Prim.Native.Nat.{◌+◌, ◌-◌, ◌*◌, ◌≤◌}
use mathlib.Core.Path.{◌≡◌}
use Rattle.binary_writer.specs.Sizes.{entry_most, fields_size}
use Rattle.binary_writer.proofs.measure.fields_size.Given as goal

abbrev pub invariant-loop-i : goal.invariant-loop-i
invariant-loop-i l = (l.size ≤ l.i * entry_most) × (l.size + fields_size l.ranges (l.k + l.i) (l.n - l.i) ≡ fields_size l.ranges l.k l.n)
