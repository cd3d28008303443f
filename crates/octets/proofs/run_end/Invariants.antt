use Prim.Native.Nat.{ℕ, ◌+◌, ◌-◌, ◌<◌, ◌≤◌}
use mathlib.Core.Bool.{true}
use mathlib.Core.Path.{◌≡◌}
use lib.ListN.{length, get_or}
use Rattle.octets.proofs.run_end.Given as goal

abbrev pub invariant-loop-i : goal.invariant-loop-i
invariant-loop-i g l = ((k : ℕ) → l.from ≤ k → k < l.i → goal.F-post g l.passes (get_or l.s k 0) true) × (l.i ≤ l.from + (length l.s - l.from)) × (l.end ≡ l.i)
