use Rattle.messages.specs.Rules.{unmeasured_body}
use Rattle.messages.proofs.Lengths.{closed-fits, closed-over}
use Rattle.messages.proofs.sections.unmeasured_body.Goals as goal

pub returns-then-fits : goal.returns-then-fits
unfolding unmeasured_body
returns-then-fits c = search closed-fits

pub returns-in-None : goal.returns-in-None
unfolding unmeasured_body
returns-in-None c = simp c.in-None.is

pub returns-else-fits : goal.returns-else-fits
unfolding unmeasured_body
returns-else-fits c = rw c.at.ensures (search closed-over)
