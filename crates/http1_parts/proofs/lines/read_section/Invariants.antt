use Prim.Native.Nat.{suc, ◌+◌, ◌-◌, ◌≤◌}
use mathlib.Core.Path.{◌≡◌}
use mathlib.Core.List.{List}
use lib.ListN.{length, drop}
use Rattle.octets.specs.Limits.{lines_most}
use Rattle.script.specs.Script.{run}
use Rattle.messages.specs.Message.{FieldRead}
use Rattle.http1_lines.specs.Read.{field_lines, section}
use Rattle.http1_parts.proofs.Taking.{LinesTaken}
use Rattle.http1_parts.proofs.lines.read_section.Given as goal

abbrev pub invariant-loop-next : goal.invariant-loop-next
invariant-loop-next l = (fs : List FieldRead) × LinesTaken l.host l.base fs l.initial.out l.out l.lines l.kept l.notes × (l.i ≤ length l.s) × (l.i ≤ l.from + l.allowance) × (run (section l.allowance) l.from (drop l.from l.s) ≡ run (field_lines (suc (lines_most - l.lines)) (l.from + l.allowance - l.i) fs) l.i (drop l.i l.s))

abbrev pub decreases-loop-next : goal.decreases-loop-next
decreases-loop-next l = 65 - l.lines
