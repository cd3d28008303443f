use Rattle.steps.proofs.Picks.{data-last, data-more}
use Rattle.steps.proofs.body.chunk_octet.Goals as goal

pub returns-then-l : goal.returns-then-l
returns-then-l c = data-last _ _ c.if-l.true c.chunk_end.ensures

pub returns : goal.returns
returns c = data-more _ _ c.if-l.false c.data_cr-c.ensures c.one_more-p.ensures c.onward.ensures
