use native.Mathlib.Omega.{arith}
use Prim.Native.Nat.{◌+◌}
use mathlib.Core.Path.{refl, sym}
use Rattle.numbers.proofs.IntegerLaws.{long-once, int-within}
use Rattle.binary_parts.proofs.Rest.{lined-no, rest-name-cut, rest-length-cut, rest-value-cut, rest-judged, part-short}
use Rattle.binary_parts.proofs.lines.after_name_length.Goals as goal

pub returns-then-s-at : goal.returns-then-s-at
returns-then-s-at c = lined-no (rest-name-cut _ _ _ c.args.s.now _ _ _ c.if-s-at.true) (rw (c.at.ensures, c.cut_number-refusal.ensures))

pub returns-in_default : goal.returns-in_default
returns-in_default c = lined-no (rest-length-cut _ _ _ c.args.s.now _ _ _ c.if-s-at.false (sym c.in_default.ensures.0)) (rw (c.at-in_default.ensures, c.cut_number-refusal.ensures, c.cut_place-place.ensures))

pub overflow_sub-s-2 : goal.overflow_sub-s-2
overflow_sub-s-2 c = omega (arith, int-within c.args.s.now (c.args.at + c.args.n) (sym c.in-Some.ensures.0))

pub returns-then-s-next : goal.returns-then-s-next
returns-then-s-next c = lined-no (rest-value-cut _ _ _ c.args.s.now _ _ _ c.if-s-at.false (sym c.in-Some.ensures.0) c.if-s-next.true) (rw (c.at-then-s-next.ensures, c.cut_number-refusal.ensures, c.cut_place-place.ensures))

pub overflow_add-a-3 : goal.overflow_add-a-3
overflow_add-a-3 c = omega (arith, int-within c.args.s.now (c.args.at + c.args.n) (sym c.in-Some.ensures.0))

pub slice_bounds-store_line-end-2 : goal.slice_bounds-store_line-end-2
slice_bounds-store_line-end-2 c = omega (arith, int-within c.args.s.now (c.args.at + c.args.n) (sym c.in-Some.ensures.0))

pub overflow_add-long : goal.overflow_add-long
overflow_add-long c = omega (arith, c.requires.3, c.requires.1, long-once _ c.in-Some.ensures.1 refl, int-within c.args.s.now (c.args.at + c.args.n) (sym c.in-Some.ensures.0))

pub store_line-requires : goal.store_line-requires
store_line-requires c = (omega (arith, part-short c.args.s.now c.args.at (c.args.at + c.args.n)), omega (arith, part-short c.args.s.now c.in-Some.field-0.next (c.in-Some.field-0.next + c.in-Some.field-0.value), int-within c.args.s.now (c.args.at + c.args.n) (sym c.in-Some.ensures.0)), c.requires.2)

pub returns : goal.returns
returns c = rest-judged _ _ _ c.args.s.now _ _ _ c.if-s-at.false (sym c.in-Some.ensures.0) c.requires.3 c.if-s-next.false c.store_line.ensures
