use Prim.Native.Nat.{◌-◌}
use mathlib.Core.Path.{◌≡◌}
use Rattle.output.specs.Splice.{Left}
use Rattle.ranges.specs.Entries.{fields_before, heads_in}
use Rattle.binary_writer.specs.Write.{informational_bytes}
use Rattle.binary_writer.specs.Sizes.{heads_size}
use Rattle.binary_writer.proofs.put.put_heads.Given as goal

abbrev pub invariant-loop-i : goal.invariant-loop-i
invariant-loop-i l = (l.k ≡ fields_before l.heads l.i) × Left l.initial.out l.at (informational_bytes (heads_in l.s l.fields l.heads 0 l.n)) (heads_size l.fields l.heads 0 l.n) l.out l.a (informational_bytes (heads_in l.s l.fields l.heads l.i (l.n - l.i))) (heads_size l.fields l.heads l.i (l.n - l.i))
