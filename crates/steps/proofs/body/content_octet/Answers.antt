use mathlib.Core.Path.{refl}
use Rattle.steps.proofs.Picks.{content-last, content-more}
use Rattle.steps.proofs.body.content_octet.Goals as goal

pub returns-then-l : goal.returns-then-l
returns-then-l c = content-last _ c.if-l.true refl c.with_tally-s.ensures c.ended.ensures

pub returns : goal.returns
returns c = content-more _ c.if-l.false c.one_more-p.ensures c.onward.ensures
