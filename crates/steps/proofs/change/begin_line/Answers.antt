use Rattle.steps.proofs.Picks.{begins-full, begins-on}
use Rattle.steps.proofs.change.begin_line.Goals as goal

pub returns-then-st-eq0 : goal.returns-then-st-eq0
returns-then-st-eq0 c = begins-full _ c.if-st-eq0.true c.refused.ensures

pub returns : goal.returns
returns c = begins-on _ c.if-st-eq0.false
