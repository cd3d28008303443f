use Rattle.messages.specs.Rules.{content_body}
use Rattle.messages.proofs.sections.content_body.Goals as goal

pub returns-in-Unstated : goal.returns-in-Unstated
unfolding content_body
returns-in-Unstated c = simp (c.unmeasured_body.ensures, c.in-Unstated.is)

pub returns-in-Stated : goal.returns-in-Stated
unfolding content_body
returns-in-Stated c = simp (c.request_body.ensures, c.in-Stated.is)

pub returns-in-Chunked : goal.returns-in-Chunked
unfolding content_body
returns-in-Chunked c = simp (c.request_body-in-Chunked.ensures, c.in-Chunked.is)

pub returns-in-Clashing : goal.returns-in-Clashing
unfolding content_body
returns-in-Clashing c = simp (c.request_body-in-Clashing.ensures, c.in-Clashing.is)
