use Rattle.messages.specs.Rules.{nothing_stated}
use Rattle.messages.proofs.sections.nothing_stated.Goals as goal

pub returns-in-Unstated : goal.returns-in-Unstated
unfolding nothing_stated
returns-in-Unstated c = simp c.in-Unstated.is

pub returns-in-Stated : goal.returns-in-Stated
unfolding nothing_stated
returns-in-Stated c = simp (c.at.ensures, c.in-Stated.is)

pub returns-in-Chunked : goal.returns-in-Chunked
unfolding nothing_stated
returns-in-Chunked c = simp (c.at-in-Chunked.ensures, c.in-Chunked.is)

pub returns-in-Clashing : goal.returns-in-Clashing
unfolding nothing_stated
returns-in-Clashing c = simp (c.at-in-Clashing.ensures, c.in-Clashing.is)
