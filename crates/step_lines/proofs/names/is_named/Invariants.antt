use Prim.Native.Nat.{◌-◌}
use mathlib.Core.Path.{◌≡◌}
use lib.ListN.{length, drop}
use Rattle.step_lines.specs.Entries.{entries, named_in}
use Rattle.step_lines.proofs.names.is_named.Given as goal

abbrev pub invariant-loop-i : goal.invariant-loop-i
invariant-loop-i l = named_in (entries l.text) l.name ≡ named_in (entries (drop l.i l.text)) l.name

abbrev pub decreases-loop-i : goal.decreases-loop-i
decreases-loop-i l = length l.text - l.i
