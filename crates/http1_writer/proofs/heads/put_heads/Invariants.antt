use mathlib.Core.Path.{◌≡◌}
use Rattle.ranges.specs.Entries.{fields_before}
use Rattle.http1_writer.proofs.Turns.{HeadsLeft}
use Rattle.http1_writer.proofs.heads.put_heads.Given as goal

abbrev pub invariant-loop-i : goal.invariant-loop-i
invariant-loop-i l = (l.k ≡ fields_before l.heads l.i) × HeadsLeft l.s l.fields l.heads l.n l.initial.out l.at l.out l.a l.i
