use Prim.Native.Nat.{◌+◌, ◌-◌, ◌≤◌}
use mathlib.Core.Path.{◌≡◌}
use lib.ListN.{length}
use Rattle.output.specs.Splice.{Left}
use Rattle.listing.specs.Rows.{rows_at}
use Rattle.listing.proofs.put_rows.Given as goal

abbrev pub invariant-loop-place : goal.invariant-loop-place
invariant-loop-place l = (l.at ≤ length l.s) × (l.i ≤ l.at + 1) × Left l.initial.out l.start (rows_at l.s 1 0) (length (rows_at l.s 1 0)) l.out l.o (rows_at l.s l.i l.at) (length (rows_at l.s l.i l.at))

abbrev pub decreases-loop-place : goal.decreases-loop-place
decreases-loop-place l = length l.s - l.at
