use native.Mathlib.Omega.{arith}
use Prim.Native.Nat.{◌+◌, ◌-◌, ◌≤◌}
use mathlib.Core.Path.{sym, ◌∙◌}
use lib.ListN.{length}
use Rattle.http1_lines.proofs.Next.{judged-empty, judged-some, part-long, next_more, next-bad, next-long, next-ends, ends-within}
use Rattle.http1_lines.proofs.lines.any_line.Goals as goal

pub returns-in-More : goal.returns-in-More
returns-in-More c = λ h. next_more _ _ _ c.line_end-l.ensures c.in-More.is

pub returns-in-Bad : goal.returns-in-Bad
returns-in-Bad c = λ h. next-bad _ _ _ c.line_end-l.ensures c.in-Bad.is

pub returns-in-Long : goal.returns-in-Long
returns-in-Long c = λ h. next-long _ _ _ c.line_end-l.ensures c.in-Long.is

pub overflow_sub-e : goal.overflow_sub-e
overflow_sub-e c = omega (arith, (let two : (c.args.i + 2 ≤ c.in-Ends.next) × (c.in-Ends.next ≤ length c.args.s.now) × (c.in-Ends.next - c.args.i ≤ c.args.left) = ends-within _ _ _ _ (sym c.line_end-l.ensures ∙ c.in-Ends.is) in two))

pub returns-then-e-i : goal.returns-then-e-i
returns-then-e-i c = λ h. next-ends _ _ _ c.line_end-l.ensures _ c.in-Ends.is (judged-empty _ _ (part-long c.args.s.now c.args.i (c.in-Ends.next - 2) (omega (arith, (let two : (c.args.i + 2 ≤ c.in-Ends.next) × (c.in-Ends.next ≤ length c.args.s.now) × (c.in-Ends.next - c.args.i ≤ c.args.left) = ends-within _ _ _ _ (sym c.line_end-l.ensures ∙ c.in-Ends.is) in two))) (omega (arith, (let two : (c.args.i + 2 ≤ c.in-Ends.next) × (c.in-Ends.next ≤ length c.args.s.now) × (c.in-Ends.next - c.args.i ≤ c.args.left) = ends-within _ _ _ _ (sym c.line_end-l.ensures ∙ c.in-Ends.is) in two))) ∙ omega (arith, c.if-e-i.true)))

pub slice_bounds-field_line-count : goal.slice_bounds-field_line-count
slice_bounds-field_line-count c = omega (arith, (let two : (c.args.i + 2 ≤ c.in-Ends.next) × (c.in-Ends.next ≤ length c.args.s.now) × (c.in-Ends.next - c.args.i ≤ c.args.left) = ends-within _ _ _ _ (sym c.line_end-l.ensures ∙ c.in-Ends.is) in two))

pub slice_bounds-field_line-start : goal.slice_bounds-field_line-start
slice_bounds-field_line-start c = omega (arith, (let two : (c.args.i + 2 ≤ c.in-Ends.next) × (c.in-Ends.next ≤ length c.args.s.now) × (c.in-Ends.next - c.args.i ≤ c.args.left) = ends-within _ _ _ _ (sym c.line_end-l.ensures ∙ c.in-Ends.is) in two))

pub slice_bounds-field_line-end : goal.slice_bounds-field_line-end
slice_bounds-field_line-end c = omega (arith, (let two : (c.args.i + 2 ≤ c.in-Ends.next) × (c.in-Ends.next ≤ length c.args.s.now) × (c.in-Ends.next - c.args.i ≤ c.args.left) = ends-within _ _ _ _ (sym c.line_end-l.ensures ∙ c.in-Ends.is) in two))

pub returns-in-Ends : goal.returns-in-Ends
returns-in-Ends c = λ h. next-ends _ _ _ c.line_end-l.ensures _ c.in-Ends.is (judged-some _ _ (λ z. c.if-e-i.false (omega (arith, z, (let two : (c.args.i + 2 ≤ c.in-Ends.next) × (c.in-Ends.next ≤ length c.args.s.now) × (c.in-Ends.next - c.args.i ≤ c.args.left) = ends-within _ _ _ _ (sym c.line_end-l.ensures ∙ c.in-Ends.is) in two), part-long c.args.s.now c.args.i (c.in-Ends.next - 2) (omega (arith, (let two : (c.args.i + 2 ≤ c.in-Ends.next) × (c.in-Ends.next ≤ length c.args.s.now) × (c.in-Ends.next - c.args.i ≤ c.args.left) = ends-within _ _ _ _ (sym c.line_end-l.ensures ∙ c.in-Ends.is) in two))) (omega (arith, (let two : (c.args.i + 2 ≤ c.in-Ends.next) × (c.in-Ends.next ≤ length c.args.s.now) × (c.in-Ends.next - c.args.i ≤ c.args.left) = ends-within _ _ _ _ (sym c.line_end-l.ensures ∙ c.in-Ends.is) in two)))))) (c.field_line-f.ensures h) c.of_field.ensures)
