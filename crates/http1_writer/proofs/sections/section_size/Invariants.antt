use Prim.Native.Nat.{◌+◌, ◌-◌, ◌*◌, ◌≤◌}
use mathlib.Core.Path.{◌≡◌}
use Rattle.http1_writer.specs.Numbered.{section_size}
use Rattle.http1_writer.proofs.sections.section_size.Given as goal

abbrev pub invariant-loop-i : goal.invariant-loop-i
invariant-loop-i l = (l.size + section_size l.fields (l.k + l.i) (l.n - l.i) ≡ 2 + section_size l.fields l.k l.n) × (l.size ≤ 2 + l.i * 8589934594)
