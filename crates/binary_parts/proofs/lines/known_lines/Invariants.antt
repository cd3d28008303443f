use Prim.Native.Nat.{suc, ◌+◌, ◌-◌, ◌≤◌}
use mathlib.Core.Path.{◌≡◌}
use mathlib.Core.List.{List, []}
use lib.ListN.{length, drop}
use Rattle.octets.specs.Limits.{lines_most}
use Rattle.messages.specs.Message.{FieldRead}
use Rattle.binary_parts.proofs.SoFar.{SoFar}
use Rattle.binary.specs.Reader.{cursor}
use Rattle.binary.specs.Read.{known_lines}
use Rattle.binary_parts.proofs.lines.known_lines.Given as goal

abbrev pub invariant-loop-i : goal.invariant-loop-i
invariant-loop-i l = (fs : List FieldRead) × SoFar l.host l.base l.initial.out fs l.lines l.count l.notes l.out × (l.i ≤ length l.s) × (known_lines l.form (suc lines_most) [] (cursor l.a l.before) l.s ≡ known_lines l.form (suc (64 - l.lines)) fs (cursor (l.a + l.i) l.longs) (drop l.i l.s)) × (l.longs ≤ l.a + l.i)

abbrev pub decreases-loop-i : goal.decreases-loop-i
decreases-loop-i l = 65 - l.lines
