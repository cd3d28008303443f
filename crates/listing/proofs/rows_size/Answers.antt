use mathlib.Core.Path.{sym, ap, ◌∙◌}
use native.Mathlib.Omega.{arith}
use lib.ListN.{length}
use Rattle.listing.proofs.Laws.{row_last, row-follows, end-length}
use Rattle.listing.proofs.rows_size.Goals as goal

pub returns-in-Stop : goal.returns-in-Stop
returns-in-Stop c = let e = row_last c.args.s.now c.loop-place.i c.loop-place.at _ _ (sym c.in-Stop.is ∙ c.next_row-row.ensures) in (omega (arith, c.end_size.ensures, c.loop-place.invariant.3, ap length e ∙ end-length _ _), omega (arith, c.end_size.ensures, c.loop-place.invariant.2, c.loop-place.invariant.0, c.requires))

pub overflow_add-at : goal.overflow_add-at
overflow_add-at c = let w = row-follows c.args.s.now c.loop-place.i c.loop-place.at _ _ _ _ c.loop-place.invariant.0 (sym c.in-Message.is ∙ c.next_row-row.ensures) in omega (arith, w.within, c.requires)

pub loop-place-smaller : goal.loop-place-smaller
loop-place-smaller c = let w = row-follows c.args.s.now c.loop-place.i c.loop-place.at _ _ _ _ c.loop-place.invariant.0 (sym c.in-Message.is ∙ c.next_row-row.ensures) in omega (arith, w.within, w.some, c.requires)

pub loop-place-preserved : goal.loop-place-preserved
loop-place-preserved c = let w = row-follows c.args.s.now c.loop-place.i c.loop-place.at _ _ _ _ c.loop-place.invariant.0 (sym c.in-Message.is ∙ c.next_row-row.ensures) in (w.within, omega (arith, w.some, c.loop-place.invariant.1), omega (arith, w.some, c.loop-place.invariant.2, c.row_size-size.ensures), omega (arith, w.size, c.row_size-size.ensures, c.loop-place.invariant.3))
