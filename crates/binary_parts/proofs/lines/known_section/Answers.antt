use native.Mathlib.Omega.{arith}
use Prim.Native.Nat.{◌+◌}
use mathlib.Core.Path.{sym}
use Rattle.ranges.proofs.Storing.{altered-none}
use Rattle.numbers.proofs.IntegerLaws.{int-within}
use Rattle.binary_parts.proofs.Places.{integer-few}
use Rattle.binary_parts.proofs.Rest.{part-short}
use Rattle.binary_parts.proofs.Sections.{gathered-no, section-cut, section-short, section-body}
use Rattle.binary_parts.proofs.lines.known_section.Goals as goal

pub returns-in_default : goal.returns-in_default
returns-in_default c = gathered-no (section-cut _ c.requires.3 c.args.s.now _ (sym c.in_default.ensures.0)) c.at.ensures (altered-none _ _)

pub overflow_sub-s : goal.overflow_sub-s
overflow_sub-s c = omega (arith, int-within c.args.s.now c.args.from.at (sym c.in-Some.ensures.0))

pub returns-then-s-next : goal.returns-then-s-next
returns-then-s-next c = gathered-no (section-short _ c.requires.3 c.args.s.now _ (sym c.in-Some.ensures.0) c.if-s-next.true) c.at-then-s-next.ensures (altered-none _ _)

pub slice_bounds-known_lines-end : goal.slice_bounds-known_lines-end
slice_bounds-known_lines-end c = omega (arith, int-within c.args.s.now c.args.from.at (sym c.in-Some.ensures.0))

pub overflow_add-from : goal.overflow_add-from
overflow_add-from c = omega (arith, integer-few c.args.s.now c.args.from c.requires.4 (sym c.in-Some.ensures.0), int-within c.args.s.now c.args.from.at (sym c.in-Some.ensures.0), c.requires.1)

pub known_lines-requires : goal.known_lines-requires
known_lines-requires c = (omega (arith, part-short c.args.s.now c.in-Some.field-0.next (c.in-Some.field-0.next + c.in-Some.field-0.value), int-within c.args.s.now c.args.from.at (sym c.in-Some.ensures.0)), c.requires.2, integer-few c.args.s.now c.args.from c.requires.4 (sym c.in-Some.ensures.0))

pub returns : goal.returns
returns c = section-body _ c.requires.3 c.args.s.now _ (sym c.in-Some.ensures.0) c.if-s-next.false c.known_lines.ensures
