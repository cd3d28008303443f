use Prim.Native.Nat.{◌+◌, ◌≤◌}
use mathlib.Core.Path.{◌≡◌}
use lib.ListN.{length}
use Rattle.numbers.specs.Digits.{char_of}
use Rattle.output.proofs.Backwards.{to_put}
use Rattle.output.proofs.lay_digits.Given as goal

abbrev pub invariant-loop-j : goal.invariant-loop-j
invariant-loop-j l = (length l.out ≡ length l.initial.out) × (l.at + l.j ≤ length l.out) × (to_put char_of l.base l.at l.j l.w l.out ≡ to_put char_of l.base l.at l.k l.n l.initial.out)
