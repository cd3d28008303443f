use Prim.Native.Nat.{◌+◌, ◌-◌, ◌*◌, ◌≤◌}
use mathlib.Core.Path.{◌≡◌}
use Rattle.ranges.specs.Entries.{fields_before}
use Rattle.binary_writer.specs.Sizes.{heads_size}
use Rattle.binary_writer.proofs.measure.heads_size.Given as goal

abbrev pub invariant-loop-i : goal.invariant-loop-i
invariant-loop-i l = (l.size ≤ l.i * 549755814800) × (l.k ≡ fields_before l.heads l.i) × (l.size + heads_size l.fields l.heads l.i (l.n - l.i) ≡ heads_size l.fields l.heads 0 l.n)
