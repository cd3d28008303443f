use native.Mathlib.Omega.{arith}
use borrow.Author.Tests.{leb-true, leb-false}
use Prim.Native.Nat.{ℕ, suc, ◌+◌}
use mathlib.Core.Path.{refl, sym, ap, ◌∙◌}
use mathlib.Core.List.{[], ◌∷◌, ◌++◌}
use lib.ListN.{drop}
use Rattle.octets.specs.Limits.{lines_most}
use Rattle.script.specs.Script.{run}
use Rattle.script.proofs.Places.{line-within}
use Rattle.http1_lines.specs.Read.{field_lines, section}
use Rattle.http1_parts.specs.Section.{no_field, line_at}
use Rattle.octets.specs.Refusals.{refused_at}
use Rattle.http1_parts.proofs.Stops.{refusing}
use Rattle.http1_parts.proofs.Line.{tells_more, tells-bad, tells-long, tells-empty, tells-field, tells_none}
use Rattle.http1_parts.proofs.Turns.{sectioned-as, turn_more, turn-bad, turn-long, empty-at, turn-empty, turn-none, turn-over, turn-taken, told-bounds}
use Rattle.http1_parts.proofs.Taking.{taken_none, taken-altered, field_room, taken-room, taken-noted, taken-passed, taken-all}
use Rattle.http1_parts.proofs.lines.read_section.Goals as goal

pub loop-next-init : goal.loop-next-init
unfolding section
loop-next-init c = ([], taken_none c.args.host c.args.base _ c.requires.2 c.no_notes-notes.ensures, c.requires.0, omega arith, ap (λ (n : ℕ). run (field_lines (suc lines_most) n []) c.args.from (drop c.args.from c.args.s.now)) (omega arith))

pub returns-in-More : goal.returns-in-More
returns-in-More c = sectioned-as (c.loop-next.invariant.4 ∙ turn_more c.args.s.now c.loop-next.i _ _ _ (tells_more _ _ _ (sym (c.next_line-l.ensures c.args.t.now.whole) ∙ c.in-More.is))) (refl, taken-altered c.loop-next.invariant.1)

pub returns-in-Bad : goal.returns-in-Bad
returns-in-Bad c = sectioned-as (c.loop-next.invariant.4 ∙ turn-bad c.args.s.now c.loop-next.i _ _ _ (tells-bad _ _ _ (sym (c.next_line-l.ensures c.args.t.now.whole) ∙ c.in-Bad.is))) (refusing c.at.ensures, taken-altered c.loop-next.invariant.1)

pub returns-in-Long : goal.returns-in-Long
returns-in-Long c = sectioned-as (c.loop-next.invariant.4 ∙ turn-long c.args.s.now c.loop-next.i _ _ _ (tells-long _ _ _ (sym (c.next_line-l.ensures c.args.t.now.whole) ∙ c.in-Long.is))) (refusing c.at-in-Long.ensures, taken-altered c.loop-next.invariant.1)

pub overflow_sub-result : goal.overflow_sub-result
overflow_sub-result c = omega (arith, c.loop-next.invariant.3, line-within _ _ _ _ c.loop-next.invariant.2 (tells-empty _ _ _ _ (sym (c.next_line-l.ensures c.args.t.now.whole) ∙ c.in-Empty.is)).ends)

pub returns-in-Empty : goal.returns-in-Empty
returns-in-Empty c = sectioned-as (c.loop-next.invariant.4 ∙ turn-empty c.args.s.now c.loop-next.i _ _ _ c.loop-next.invariant.2 (tells-empty _ _ _ _ (sym (c.next_line-l.ensures c.args.t.now.whole) ∙ c.in-Empty.is))) (taken-all c.loop-next.invariant.1 (omega (arith, empty-at _ _ _ 0 [] c.loop-next.invariant.2 (tells-empty _ _ _ _ (sym (c.next_line-l.ensures c.args.t.now.whole) ∙ c.in-Empty.is)), line-within _ _ _ _ c.loop-next.invariant.2 (tells-empty _ _ _ _ (sym (c.next_line-l.ensures c.args.t.now.whole) ∙ c.in-Empty.is)).ends)))

pub returns-in-NoField : goal.returns-in-NoField
returns-in-NoField c = sectioned-as (c.loop-next.invariant.4 ∙ turn-none c.args.s.now c.loop-next.i _ _ _ c.loop-next.invariant.2 (tells_none _ _ _ (sym (c.next_line-l.ensures c.args.t.now.whole) ∙ c.in-NoField.is))) (refusing (c.at-in-NoField.ensures ∙ ap (λ (k : ℕ). refused_at k c.loop-next.i) (c.no_field.ensures ∙ ap no_field (sym c.loop-next.invariant.1.number))), taken-altered c.loop-next.invariant.1)

pub returns-then-is_full : goal.returns-then-is_full
returns-then-is_full c = sectioned-as (c.loop-next.invariant.4 ∙ turn-over c.args.s.now c.loop-next.i _ _ _ c.loop-next.invariant.2 (tells-field _ _ _ _ _ _ _ (sym (c.next_line-l.ensures c.args.t.now.whole) ∙ c.in-Field.is)) (omega (arith, c.loop-next.invariant.1.number, leb-true lines_most c.loop-next.lines (sym c.is_full.ensures ∙ c.if-is_full.true)))) (refusing c.at-then-is_full.ensures, taken-altered c.loop-next.invariant.1)

pub overflow_add-v : goal.overflow_add-v
overflow_add-v c = omega (arith, told-bounds _ _ _ c.loop-next.invariant.2 (sym (c.next_line-l.ensures c.args.t.now.whole) ∙ c.in-Field.is))

pub take_line-taken-requires : goal.take_line-taken-requires
take_line-taken-requires c = let b = told-bounds _ _ _ c.loop-next.invariant.2 (sym (c.next_line-l.ensures c.args.t.now.whole) ∙ c.in-Field.is) in (omega (arith, b), omega (arith, b, c.loop-next.invariant.3, c.requires.1), omega (arith, b, c.loop-next.invariant.3, c.requires.1), omega (arith, b), field_room c.loop-next.invariant.1 c.requires.2 c.args.s.now c.loop-next.i c.in-Field.name (c.loop-next.i + c.in-Field.value) c.in-Field.len (leb-false lines_most c.loop-next.lines (sym c.is_full.ensures ∙ c.if-is_full.false)))

pub overflow_add-w : goal.overflow_add-w
overflow_add-w c = omega (arith, told-bounds _ _ _ c.loop-next.invariant.2 (sym (c.next_line-l.ensures c.args.t.now.whole) ∙ c.in-Field.is))

pub overflow_cast-v : goal.overflow_cast-v
overflow_cast-v c = omega (arith, told-bounds _ _ _ c.loop-next.invariant.2 (sym (c.next_line-l.ensures c.args.t.now.whole) ∙ c.in-Field.is), c.loop-next.invariant.3, c.requires.1)

pub overflow_cast-len : goal.overflow_cast-len
overflow_cast-len c = omega (arith, told-bounds _ _ _ c.loop-next.invariant.2 (sym (c.next_line-l.ensures c.args.t.now.whole) ∙ c.in-Field.is), c.loop-next.invariant.3, c.requires.1)

pub store_connection-requires : goal.store_connection-requires
store_connection-requires c = taken-room c.loop-next.invariant.1 c.requires.2 c.args.s.now c.loop-next.i c.in-Field.name (c.loop-next.i + c.in-Field.value) c.in-Field.len (leb-false lines_most c.loop-next.lines (sym c.is_full.ensures ∙ c.if-is_full.false)) c.take_line-taken.ensures

pub slice_bounds-note-end : goal.slice_bounds-note-end
slice_bounds-note-end c = omega (arith, told-bounds _ _ _ c.loop-next.invariant.2 (sym (c.next_line-l.ensures c.args.t.now.whole) ∙ c.in-Field.is))

pub loop-next-preserved-then-is_noted : goal.loop-next-preserved-then-is_noted
loop-next-preserved-then-is_noted c = let b = told-bounds _ _ _ c.loop-next.invariant.2 (sym (c.next_line-l.ensures c.args.t.now.whole) ∙ c.in-Field.is) in (c.loop-next.invariant.0 ++ line_at c.args.s.now c.loop-next.i c.in-Field.name (c.loop-next.i + c.in-Field.value) c.in-Field.len ∷ [], taken-noted c.loop-next.invariant.1 c.requires.2 c.args.s.now c.loop-next.i c.in-Field.name (c.loop-next.i + c.in-Field.value) c.in-Field.len (leb-false lines_most c.loop-next.lines (sym c.is_full.ensures ∙ c.if-is_full.false)) c.take_line-taken.ensures (omega (arith, b)) c.store_connection.ensures c.note-notes.ensures, b.4, omega (arith, b, c.loop-next.invariant.3), c.loop-next.invariant.4 ∙ turn-taken c.args.s.now c.loop-next.i _ _ _ c.loop-next.invariant.2 (tells-field _ _ _ _ _ _ _ (sym (c.next_line-l.ensures c.args.t.now.whole) ∙ c.in-Field.is)) _ _ (omega (arith, leb-false lines_most c.loop-next.lines (sym c.is_full.ensures ∙ c.if-is_full.false))) (omega (arith, b, c.loop-next.invariant.3)) (omega (arith, c.loop-next.invariant.1.number, leb-false lines_most c.loop-next.lines (sym c.is_full.ensures ∙ c.if-is_full.false))))

pub loop-next-preserved : goal.loop-next-preserved
loop-next-preserved c = let b = told-bounds _ _ _ c.loop-next.invariant.2 (sym (c.next_line-l.ensures c.args.t.now.whole) ∙ c.in-Field.is) in (c.loop-next.invariant.0 ++ line_at c.args.s.now c.loop-next.i c.in-Field.name (c.loop-next.i + c.in-Field.value) c.in-Field.len ∷ [], taken-passed c.loop-next.invariant.1 c.requires.2 c.args.s.now c.loop-next.i c.in-Field.name (c.loop-next.i + c.in-Field.value) c.in-Field.len (leb-false lines_most c.loop-next.lines (sym c.is_full.ensures ∙ c.if-is_full.false)) c.take_line-taken.ensures (sym c.is_noted.ensures ∙ c.if-is_noted.false), b.4, omega (arith, b, c.loop-next.invariant.3), c.loop-next.invariant.4 ∙ turn-taken c.args.s.now c.loop-next.i _ _ _ c.loop-next.invariant.2 (tells-field _ _ _ _ _ _ _ (sym (c.next_line-l.ensures c.args.t.now.whole) ∙ c.in-Field.is)) _ _ (omega (arith, leb-false lines_most c.loop-next.lines (sym c.is_full.ensures ∙ c.if-is_full.false))) (omega (arith, b, c.loop-next.invariant.3)) (omega (arith, c.loop-next.invariant.1.number, leb-false lines_most c.loop-next.lines (sym c.is_full.ensures ∙ c.if-is_full.false))))
