use Prim.Native.Nat.{◌+◌, ◌-◌, ◌*◌, ◌≤◌}
use mathlib.Core.Path.{◌≡◌}
use lib.ListN.{length}
use Rattle.listing.specs.Rows.{rows_at}
use Rattle.listing.proofs.rows_size.Given as goal

abbrev pub invariant-loop-place : goal.invariant-loop-place
invariant-loop-place l = (l.at ≤ length l.s) × (l.i ≤ l.at + 1) × (l.size ≤ l.at * 126) × (l.size + length (rows_at l.s l.i l.at) ≡ length (rows_at l.s 1 0))

abbrev pub decreases-loop-place : goal.decreases-loop-place
decreases-loop-place l = length l.s - l.at
