use Prim.Native.Nat.{◌≤◌}
use mathlib.Core.Path.{◌≡◌}
use lib.ListN.{drop}
use Rattle.numbers.specs.Digits.{most, num_of, num_from}
use Rattle.numbers.proofs.parse.Given as goal

abbrev pub invariant-loop-b : goal.invariant-loop-b
invariant-loop-b l = (l.v ≤ most) × (num_from l.base l.v (drop l.b-index l.s) ≡ num_of l.base l.s)
