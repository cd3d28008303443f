use Rattle.steps.proofs.Picks.{trailers-good, trailers-bad}
use Rattle.steps.proofs.body.trailers_end.Goals as goal

pub returns-then-st : goal.returns-then-st
returns-then-st c = trailers-good _ c.if-st.true c.ended.ensures

pub returns : goal.returns
returns c = trailers-bad _ c.if-st.false c.refused.ensures
