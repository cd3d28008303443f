use Prim.Native.Nat.{◌+◌, ◌-◌}
use mathlib.Core.Path.{◌≡◌}
use Rattle.question.specs.Asking.{found_in}
use Rattle.question.proofs.first_in.Given as goal

abbrev pub invariant-loop-i : goal.invariant-loop-i
invariant-loop-i l = found_in l.name l.s l.ranges (l.k + l.i) (l.n - l.i) ≡ found_in l.name l.s l.ranges l.k l.n
