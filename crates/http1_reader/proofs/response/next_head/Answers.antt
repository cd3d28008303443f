use borrow.Author.Tests.{leb-true, leb-false}
use native.Mathlib.Omega.{arith}
use mathlib.Core.Path.{sym, ◌∙◌}
use Rattle.std.proofs.lemmas.Result.{err_from_is_err_and}
use Rattle.script.proofs.Places.{line-within}
use Rattle.http1_parts.proofs.Stops.{line-found}
use Rattle.http1_reader.proofs.ResponseHeads.{next-stopped, next-wrong, next-full, next-informational, next-final}
use Rattle.http1_reader.proofs.response.next_head.Goals as goal

pub returns-in_err-next : goal.returns-in_err-next
returns-in_err-next c = let p = err_from_is_err_and c.from_residual.result c.from_residual.ensures.1 in rw (p.1, p.2) (next-stopped c.args.s.now c.args.i _ _ _ c.in_err-next.ensures)

pub overflow_sub-e : goal.overflow_sub-e
overflow_sub-e c = omega (arith, line-within c.args.s.now c.args.left c.args.i _ c.requires.0 (line-found c.args.i _ c.in_ok-next.ensures))

pub slice_bounds-status_line-count : goal.slice_bounds-status_line-count
slice_bounds-status_line-count c = omega (arith, line-within c.args.s.now c.args.left c.args.i _ c.requires.0 (line-found c.args.i _ c.in_ok-next.ensures))

pub slice_bounds-status_line-start : goal.slice_bounds-status_line-start
slice_bounds-status_line-start c = omega (arith, line-within c.args.s.now c.args.left c.args.i _ c.requires.0 (line-found c.args.i _ c.in_ok-next.ensures))

pub slice_bounds-status_line-end : goal.slice_bounds-status_line-end
slice_bounds-status_line-end c = omega (arith, line-within c.args.s.now c.args.left c.args.i _ c.requires.0 (line-found c.args.i _ c.in_ok-next.ensures))

pub returns-in-Err : goal.returns-in-Err
returns-in-Err c = rw c.at.ensures (next-wrong c.args.s.now c.args.i _ _ _ (line-found c.args.i _ c.in_ok-next.ensures) (sym (c.status_line.ensures c.args.t.now.whole) ∙ c.in-Err.is))

pub overflow_sub-rest : goal.overflow_sub-rest
overflow_sub-rest c = omega (arith, line-within c.args.s.now c.args.left c.args.i _ c.requires.0 (line-found c.args.i _ c.in_ok-next.ensures))

pub overflow_sub-rest-in-Ok : goal.overflow_sub-rest-in-Ok
overflow_sub-rest-in-Ok c = omega (arith, line-within c.args.s.now c.args.left c.args.i _ c.requires.0 (line-found c.args.i _ c.in_ok-next.ensures))

pub returns-then-is_full : goal.returns-then-is_full
returns-then-is_full c = rw c.at-then-is_full.ensures (next-full c.args.s.now c.args.i _ _ _ (line-found c.args.i _ c.in_ok-next.ensures) c.requires.0 (sym (c.status_line.ensures c.args.t.now.whole) ∙ c.in-Ok.is) (sym c.is_informational.ensures ∙ c.if-is_informational.true) (leb-true _ _ (sym c.is_full.ensures ∙ c.if-is_full.true)))

pub informational_head-requires : goal.informational_head-requires
informational_head-requires c = ((line-within c.args.s.now c.args.left c.args.i _ c.requires.0 (line-found c.args.i _ c.in_ok-next.ensures)).1, omega (arith, line-within c.args.s.now c.args.left c.args.i _ c.requires.0 (line-found c.args.i _ c.in_ok-next.ensures), c.requires.1), c.requires.2)

pub returns-then-is_informational : goal.returns-then-is_informational
returns-then-is_informational c = next-informational c.args.s.now c.args.i _ _ _ (line-found c.args.i _ c.in_ok-next.ensures) c.requires.0 (sym (c.status_line.ensures c.args.t.now.whole) ∙ c.in-Ok.is) (sym c.is_informational.ensures ∙ c.if-is_informational.true) (leb-false _ _ (sym c.is_full.ensures ∙ c.if-is_full.false)) c.informational_head.ensures

pub final_head-requires : goal.final_head-requires
final_head-requires c = ((line-within c.args.s.now c.args.left c.args.i _ c.requires.0 (line-found c.args.i _ c.in_ok-next.ensures)).1, omega (arith, line-within c.args.s.now c.args.left c.args.i _ c.requires.0 (line-found c.args.i _ c.in_ok-next.ensures), c.requires.1), c.requires.2)

pub returns-else-is_informational : goal.returns-else-is_informational
returns-else-is_informational c = next-final c.args.s.now c.args.i _ _ _ (line-found c.args.i _ c.in_ok-next.ensures) c.requires.0 (sym (c.status_line.ensures c.args.t.now.whole) ∙ c.in-Ok.is) (sym c.is_informational.ensures ∙ c.if-is_informational.false) c.final_head.ensures
