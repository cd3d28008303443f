use mathlib.Core.Path.{◌≡◌}
use lib.ListN.{length}
use Rattle.octets.specs.Class.{is_blank}
use Rattle.octets.specs.Text.{trim_back}
use Rattle.octets.proofs.trim_len.Given as goal

abbrev pub invariant-loop-i : goal.invariant-loop-i
invariant-loop-i l = trim_back is_blank l.s (length l.s) ≡ trim_back is_blank l.s l.i
