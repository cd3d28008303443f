use Prim.Native.Nat.{◌+◌, ◌-◌}
use mathlib.Core.Path.{◌≡◌}
use Rattle.numbers.specs.Digits.{count_of, more_of}
use Rattle.numbers.proofs.digit_count.Given as goal

abbrev pub invariant-loop-k : goal.invariant-loop-k
invariant-loop-k l = l.k + more_of (20 - l.k) l.base l.m ≡ count_of l.base l.n
