use native.Mathlib.Omega.{arith}
use mathlib.Core.Path.{refl, sym, ◌∙◌}
use Rattle.numbers.proofs.IntegerLaws.{long-once, int-within, value-bound}
use Rattle.binary_parts.proofs.ChunkTurns.{chunk-none, chunk-last, chunk-many, chunk-large, chunk-short, chunk_next}
use Rattle.binary_parts.proofs.content.open_chunk.Goals as goal

pub returns-in_default : goal.returns-in_default
returns-in_default c = chunk-none c.args.s.now _ _ _ _ c.at.ensures (sym c.in_default.ensures.0)

pub overflow_add-sum : goal.overflow_add-sum
overflow_add-sum c = omega (arith, c.requires.2, long-once _ c.in-Some.ensures.1 refl, int-within c.args.s.now c.args.i (sym c.in-Some.ensures.0))

pub returns-then-value-eq0 : goal.returns-then-value-eq0
returns-then-value-eq0 c = chunk-last c.args.s.now _ _ _ _ (sym c.in-Some.ensures.0) c.requires.2 c.if-value-eq0.true

pub returns-then-not-fits : goal.returns-then-not-fits
returns-then-not-fits c = chunk-many c.args.s.now _ _ _ _ (sym c.in-Some.ensures.0) c.if-value-eq0.false c.at-then-not-fits.ensures (sym c.fits.ensures ∙ c.if-not-fits.true)

pub overflow_add-total : goal.overflow_add-total
overflow_add-total c = omega (arith, c.requires.0, value-bound _ c.in-Some.ensures.1 refl)

pub returns-then-not-fits-2 : goal.returns-then-not-fits-2
returns-then-not-fits-2 c = chunk-large c.args.s.now _ _ _ _ (sym c.in-Some.ensures.0) c.if-value-eq0.false (sym c.fits.ensures ∙ c.if-not-fits.false) c.at-then-not-fits-2.ensures (sym c.fits-2.ensures ∙ c.if-not-fits-2.true)

pub overflow_sub-s : goal.overflow_sub-s
overflow_sub-s c = omega (arith, int-within c.args.s.now c.args.i (sym c.in-Some.ensures.0))

pub returns-then-s-next : goal.returns-then-s-next
returns-then-s-next c = chunk-short c.args.s.now _ _ _ _ (sym c.in-Some.ensures.0) c.if-value-eq0.false (sym c.fits.ensures ∙ c.if-not-fits.false) (sym c.fits-2.ensures ∙ c.if-not-fits-2.false) c.at-then-s-next.ensures c.if-s-next.true

pub returns : goal.returns
returns c = chunk_next c.args.s.now _ _ _ _ (sym c.in-Some.ensures.0) c.if-value-eq0.false (sym c.fits.ensures ∙ c.if-not-fits.false) (sym c.fits-2.ensures ∙ c.if-not-fits-2.false) c.requires.2 c.if-s-next.false
