use mathlib.Core.Path.{◌≡◌}
use Prim.Native.Nat.{◌+◌, ◌≤◌}
use lib.ListN.{length, drop}
use Rattle.output.specs.Splice.{splice}
use Rattle.capi.proofs.numbers_out.put_all.Given as goal

abbrev pub invariant-loop-i : goal.invariant-loop-i
invariant-loop-i l = (l.i ≤ length l.numbers) × (length l.out ≡ length l.initial.out)
    × (splice l.out (l.at + l.i) (drop l.i l.numbers) ≡ splice l.initial.out l.at l.numbers)
