use Rattle.steps.proofs.Picks.{end-no-cr, end-no-lf, end-good}
use Rattle.steps.proofs.body.chunk_end.Goals as goal
use Rattle.steps.proofs.body.chunk_end.Goals.{else-st-eq1-via-then-st-eq1+else-b-eq10, else-st-eq1-via-else-st-eq1}

pub returns-then-b-eq10 : goal.returns-then-b-eq10
returns-then-b-eq10 c = end-good _ _ c.if-st-eq1.true c.if-b-eq10.true c.fresh_word-l.ensures c.with_chunk-t.ensures c.with_tally-s.ensures c.onward.ensures

pub returns : goal.returns
returns c = elim c.else-st-eq1.branch [
  | else-st-eq1-via-then-st-eq1+else-b-eq10 w ↦ end-no-lf _ _ w.if-st-eq1.true w.if-b-eq10.false c.refused.ensures
  | else-st-eq1-via-else-st-eq1 w ↦ end-no-cr _ _ w.if-st-eq1.false c.refused.ensures
]
