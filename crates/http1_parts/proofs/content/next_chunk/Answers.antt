use Prim.Native.Nat.{◌+◌}
use native.Mathlib.Omega.{arith}
use mathlib.Core.Path.{sym, ◌∙◌}
use borrow.Author.Tests.{leb-true, leb-false}
use Rattle.std.proofs.lemmas.Result.{err_from_is_err_and}
use Rattle.octets.specs.Limits.{chunk_line_most, content_most}
use Rattle.script.proofs.Places.{line-within}
use Rattle.http1_lines.proofs.Views.{chunk-within}
use Rattle.http1_parts.proofs.Stops.{line-found}
use Rattle.http1_parts.proofs.ChunkTurns.{chunk-stopped, chunk-wrong, chunk-last, chunk-many, chunk-large, data-stopped, data-read}
use Rattle.http1_parts.proofs.content.next_chunk.Goals as goal

pub returns-in_err-next : goal.returns-in_err-next
returns-in_err-next c = let p = err_from_is_err_and c.from_residual.result c.from_residual.ensures.1 in rw (p.1, p.2) (chunk-stopped c.args.s.now c.args.i _ _ c.in_err-next.ensures)

pub overflow_sub-e : goal.overflow_sub-e
overflow_sub-e c = omega (arith, line-within c.args.s.now chunk_line_most c.args.i _ c.requires.0 (line-found c.args.i _ c.in_ok-next.ensures))

pub slice_bounds-chunk_line-count : goal.slice_bounds-chunk_line-count
slice_bounds-chunk_line-count c = omega (arith, line-within c.args.s.now chunk_line_most c.args.i _ c.requires.0 (line-found c.args.i _ c.in_ok-next.ensures))

pub slice_bounds-chunk_line-start : goal.slice_bounds-chunk_line-start
slice_bounds-chunk_line-start c = omega (arith, line-within c.args.s.now chunk_line_most c.args.i _ c.requires.0 (line-found c.args.i _ c.in_ok-next.ensures))

pub slice_bounds-chunk_line-end : goal.slice_bounds-chunk_line-end
slice_bounds-chunk_line-end c = omega (arith, line-within c.args.s.now chunk_line_most c.args.i _ c.requires.0 (line-found c.args.i _ c.in_ok-next.ensures))

pub returns-in-None : goal.returns-in-None
returns-in-None c = rw c.at.ensures (chunk-wrong c.args.s.now c.args.i _ _ _ (line-found c.args.i _ c.in_ok-next.ensures) (sym (c.chunk_line.ensures c.args.t.now.whole) ∙ c.in-None.is))

pub returns-then-size-eq0 : goal.returns-then-size-eq0
returns-then-size-eq0 c = chunk-last c.args.s.now c.args.i _ _ _ (line-found c.args.i _ c.in_ok-next.ensures) c.requires.0 _ (sym (c.chunk_line.ensures c.args.t.now.whole) ∙ c.in-Some.is) c.if-size-eq0.true

pub returns-then-is_full : goal.returns-then-is_full
returns-then-is_full c = rw c.at-then-is_full.ensures (chunk-many c.args.s.now c.args.i _ _ _ (line-found c.args.i _ c.in_ok-next.ensures) c.requires.0 _ (sym (c.chunk_line.ensures c.args.t.now.whole) ∙ c.in-Some.is) c.if-size-eq0.false (leb-true _ _ (sym c.is_full.ensures ∙ c.if-is_full.true)))

pub overflow_add-total : goal.overflow_add-total
overflow_add-total c = omega (arith, chunk-within _ _ (sym (c.chunk_line.ensures c.args.t.now.whole) ∙ c.in-Some.is))

pub chunk_data-requires : goal.chunk_data-requires
chunk_data-requires c = ((line-within c.args.s.now chunk_line_most c.args.i _ c.requires.0 (line-found c.args.i _ c.in_ok-next.ensures)).1, omega (arith, leb-true (c.args.total + c.in-Some.size) content_most (sym c.fits.ensures ∙ c.if-fits.true)))

pub returns-in_err-data-in-Some : goal.returns-in_err-data-in-Some
returns-in_err-data-in-Some c = let p = err_from_is_err_and c.from_residual-in_err-data-in-Some.result c.from_residual-in_err-data-in-Some.ensures.1 in rw (p.1, p.2) (data-stopped c.args.s.now c.args.i _ _ _ (line-found c.args.i _ c.in_ok-next.ensures) c.requires.0 _ (sym (c.chunk_line.ensures c.args.t.now.whole) ∙ c.in-Some.is) c.if-size-eq0.false (leb-false _ _ (sym c.is_full.ensures ∙ c.if-is_full.false)) (leb-true _ _ (sym c.fits.ensures ∙ c.if-fits.true)) c.in_err-data-in-Some.ensures)

pub returns-then-fits : goal.returns-then-fits
returns-then-fits c = data-read c.args.s.now c.args.i _ _ _ (line-found c.args.i _ c.in_ok-next.ensures) c.requires.0 _ (sym (c.chunk_line.ensures c.args.t.now.whole) ∙ c.in-Some.is) c.if-size-eq0.false (leb-false _ _ (sym c.is_full.ensures ∙ c.if-is_full.false)) (leb-true _ _ (sym c.fits.ensures ∙ c.if-fits.true)) c.in_ok-data-in-Some.ensures

pub returns-else-fits : goal.returns-else-fits
returns-else-fits c = rw c.at-in-Some.ensures (chunk-large c.args.s.now c.args.i _ _ _ (line-found c.args.i _ c.in_ok-next.ensures) c.requires.0 _ (sym (c.chunk_line.ensures c.args.t.now.whole) ∙ c.in-Some.is) c.if-size-eq0.false (leb-false _ _ (sym c.is_full.ensures ∙ c.if-is_full.false)) (leb-false _ _ (sym c.fits.ensures ∙ c.if-fits.false)))
