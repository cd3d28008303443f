use Prim.Native.Nat.{ℕ}
use mathlib.Core.Path.{◌≡◌}
use lib.ListN.{drop}
use Rattle.binary.specs.Reader.{cursor}
use Rattle.binary.specs.Read.{padding}
use Rattle.binary_parts.proofs.content.check_padding.Given as goal

abbrev pub invariant-loop-i : goal.invariant-loop-i
invariant-loop-i l = (c : ℕ) → padding l.form (cursor l.initial.i c) (drop l.initial.i l.s) ≡ padding l.form (cursor l.i c) (drop l.i l.s)
