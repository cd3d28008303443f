use Prim.Native.Nat.{◌-◌, ◌≤◌}
use mathlib.Core.Path.{◌≡◌}
use lib.ListN.{drop}
use Rattle.script.specs.Script.{line_of}
use Rattle.script.proofs.line_end.Given as goal

abbrev pub invariant-loop-i : goal.invariant-loop-i
invariant-loop-i l = (line_of (drop l.at l.s) l.allowance l.at 0 ≡ line_of (drop l.i l.s) (l.allowance - (l.i - l.at)) l.i 0) × (l.at ≤ l.i) × (l.i ≤ l.end) × (l.passed ≡ l.i)
