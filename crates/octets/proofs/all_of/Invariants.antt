use mathlib.Core.Path.{◌≡◌}
use lib.ListN.{drop}
use Rattle.octets.specs.Table.{has_in}
use Rattle.octets.specs.Text.{all}
use Rattle.octets.proofs.all_of.Given as goal

abbrev pub invariant-loop-i : goal.invariant-loop-i
invariant-loop-i l = all (has_in l.t l.mask) (drop l.i l.s) ≡ all (has_in l.t l.mask) l.s
