use mathlib.Core.Path.{sym, ap, ◌∙◌}
use native.Mathlib.Omega.{arith}
use lib.ListN.{length}
use Rattle.listing.proofs.Laws.{row_last, row-follows, end-length, left-row, left-last}
use Rattle.listing.proofs.put_rows.Goals as goal

pub put_end-requires : goal.put_end-requires
put_end-requires c = let e = row_last c.args.s.now c.loop-place.i c.loop-place.at _ _ (sym c.in-Stop.is ∙ c.next_row-row.ensures) in omega (arith, c.loop-place.invariant.2.next, c.loop-place.invariant.2.kept, c.requires.1, ap length e ∙ end-length _ _)

pub returns-in-Stop : goal.returns-in-Stop
returns-in-Stop c = left-last (row_last c.args.s.now c.loop-place.i c.loop-place.at _ _ (sym c.in-Stop.is ∙ c.next_row-row.ensures)) c.loop-place.invariant.2 c.put_end.ensures

pub put_row-o-requires : goal.put_row-o-requires
put_row-o-requires c = let w = row-follows c.args.s.now c.loop-place.i c.loop-place.at _ _ _ _ c.loop-place.invariant.0 (sym c.in-Message.is ∙ c.next_row-row.ensures) in omega (arith, c.loop-place.invariant.2.next, c.loop-place.invariant.2.kept, c.requires.1, w.size)

pub overflow_add-at : goal.overflow_add-at
overflow_add-at c = let w = row-follows c.args.s.now c.loop-place.i c.loop-place.at _ _ _ _ c.loop-place.invariant.0 (sym c.in-Message.is ∙ c.next_row-row.ensures) in omega (arith, w.within, c.requires.0)

pub loop-place-smaller : goal.loop-place-smaller
loop-place-smaller c = let w = row-follows c.args.s.now c.loop-place.i c.loop-place.at _ _ _ _ c.loop-place.invariant.0 (sym c.in-Message.is ∙ c.next_row-row.ensures) in omega (arith, w.within, w.some, c.requires.0)

pub loop-place-preserved : goal.loop-place-preserved
loop-place-preserved c = let w = row-follows c.args.s.now c.loop-place.i c.loop-place.at _ _ _ _ c.loop-place.invariant.0 (sym c.in-Message.is ∙ c.next_row-row.ensures) in (w.within, omega (arith, w.some, c.loop-place.invariant.1), left-row w c.loop-place.invariant.2 c.put_row-o.ensures)
