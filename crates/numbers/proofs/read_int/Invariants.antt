use Prim.Native.Nat.{◌≤◌, ◌+◌, ◌-◌}
use mathlib.Core.Path.{◌≡◌}
use lib.ListN.{length, drop}
use Rattle.numbers.specs.Integer.{read_int, read_more}
use Rattle.numbers.proofs.ReadInteger.{Below}
use Rattle.numbers.proofs.read_int.Given as goal

abbrev pub invariant-loop-k : goal.invariant-loop-k
invariant-loop-k l = (l.at + 1 + l.k ≤ length l.s) × (Below (l.more - l.k) l.v)
    × (read_more (l.more + 1) (l.more - l.k) l.v (l.at + 1 + l.k) (drop (l.at + 1 + l.k) l.s) ≡ read_int l.at (drop l.at l.s))
