use Prim.Native.Nat.{◌-◌, ◌+◌, ◌≤◌}
use mathlib.Core.Path.{◌≡◌}
use lib.ListN.{length, drop}
use Rattle.step_lines.specs.Entries.{entries, count_in}
use Rattle.step_lines.proofs.names.count.Given as goal

abbrev pub invariant-loop-i : goal.invariant-loop-i
invariant-loop-i l = (count_in (entries l.text) (entries l.text) ≡ l.n + count_in (entries l.text) (entries (drop l.i l.text))) × (l.n ≤ l.i)

abbrev pub decreases-loop-i : goal.decreases-loop-i
decreases-loop-i l = length l.text - l.i
