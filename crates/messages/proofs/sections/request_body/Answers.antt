use Rattle.messages.specs.Rules.{request_body}
use Rattle.messages.proofs.Lengths.{stated-fits, stated-over}
use Rattle.messages.proofs.sections.request_body.Goals as goal

pub returns-then-fits : goal.returns-then-fits
unfolding request_body
returns-then-fits c = search stated-fits

pub returns-in-Unstated : goal.returns-in-Unstated
unfolding request_body
returns-in-Unstated c = simp c.in-Unstated.is

pub returns-else-fits : goal.returns-else-fits
unfolding request_body
returns-else-fits c = rw c.at.ensures (search stated-over)

pub returns-in-Chunked : goal.returns-in-Chunked
unfolding request_body
returns-in-Chunked c = simp c.in-Chunked.is

pub returns-in-Clashing : goal.returns-in-Clashing
unfolding request_body
returns-in-Clashing c = simp (c.at-in-Clashing.ensures, c.in-Clashing.is)
