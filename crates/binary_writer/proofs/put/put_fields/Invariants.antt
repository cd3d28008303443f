use Prim.Native.Nat.{◌+◌, ◌-◌}
use mathlib.Core.List.{map}
use Rattle.output.specs.Splice.{Left}
use Rattle.messages.specs.Meaning.{field_means}
use Rattle.ranges.specs.Entries.{fields_in}
use Rattle.binary_writer.specs.Write.{fields_bytes}
use Rattle.binary_writer.specs.Sizes.{fields_size}
use Rattle.binary_writer.proofs.put.put_fields.Given as goal

abbrev pub invariant-loop-i : goal.invariant-loop-i
invariant-loop-i l = Left l.initial.out l.at (fields_bytes (map field_means (fields_in l.s l.ranges l.k l.n))) (fields_size l.ranges l.k l.n) l.out l.a (fields_bytes (map field_means (fields_in l.s l.ranges (l.k + l.i) (l.n - l.i)))) (fields_size l.ranges (l.k + l.i) (l.n - l.i))
