use Prim.Native.Nat.{◌+◌, ◌≤◌}
use mathlib.Core.Path.{◌≡◌}
use lib.ListN.{length}
use Rattle.numbers.specs.Integer.{plain}
use Rattle.output.proofs.Backwards.{to_put}
use Rattle.output.proofs.lay_int.Given as goal

abbrev pub invariant-loop-k : goal.invariant-loop-k
invariant-loop-k l = (length l.out ≡ length l.initial.out) × (l.at + l.k ≤ length l.out) × (to_put plain 256 l.at l.k l.w l.out ≡ to_put plain 256 l.at l.n l.initial.w l.initial.out)
