use native.Mathlib.Omega.{arith}
use mathlib.Core.Path.{sym}
use Rattle.numbers.proofs.IntegerLaws.{int-within}
use Rattle.binary_parts.proofs.Places.{integer-few, part_cut, part-octets}
use Rattle.binary_parts.proofs.parts.part_at.Goals as goal

pub returns-in_default : goal.returns-in_default
returns-in_default c = part_cut c.args.s.now _ c.at.ensures (sym c.in_default.ensures.0)

pub overflow_add-from : goal.overflow_add-from
overflow_add-from c = omega (arith, integer-few c.args.s.now c.args.from c.requires (sym c.in-Some.ensures.0), int-within c.args.s.now c.args.from.at (sym c.in-Some.ensures.0))

pub part_octets-requires : goal.part_octets-requires
part_octets-requires c = ((int-within c.args.s.now c.args.from.at (sym c.in-Some.ensures.0)).1, integer-few c.args.s.now c.args.from c.requires (sym c.in-Some.ensures.0))

pub returns : goal.returns
returns c = part-octets c.args.s.now _ (sym c.in-Some.ensures.0) c.part_octets.ensures
