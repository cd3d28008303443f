use Prim.Native.Nat.{suc, ◌-◌, ◌≤◌}
use mathlib.Core.Path.{◌≡◌}
use mathlib.Core.List.{List, []}
use lib.ListN.{length, drop}
use Rattle.octets.specs.Limits.{lines_most}
use Rattle.messages.specs.Message.{FieldRead}
use Rattle.binary_parts.proofs.SoFar.{SoFar}
use Rattle.binary.specs.Reader.{cursor}
use Rattle.binary.specs.Read.{open_lines}
use Rattle.binary_parts.proofs.lines.open_section.Given as goal

abbrev pub invariant-loop-n : goal.invariant-loop-n
invariant-loop-n l = (fs : List FieldRead) × SoFar l.host l.base l.initial.out fs l.lines l.count l.notes l.out × (l.i ≤ length l.s) × (open_lines l.form (suc lines_most) [] (cursor l.initial.i l.initial.longs) (drop l.initial.i l.s) ≡ open_lines l.form (suc (64 - l.lines)) fs (cursor l.i l.longs) (drop l.i l.s)) × (l.longs ≤ l.i)

abbrev pub decreases-loop-n : goal.decreases-loop-n
decreases-loop-n l = 65 - l.lines
