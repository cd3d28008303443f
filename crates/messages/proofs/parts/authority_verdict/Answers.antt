use Rattle.messages.specs.Control.{authority_verdict}
use Rattle.messages.proofs.Picks.{picks, by-table}
use Rattle.messages.proofs.parts.authority_verdict.Goals as goal

pub returns-then-all_of : goal.returns-then-all_of
unfolding authority_verdict
returns-then-all_of c = λ h. search (picks, by-table h)

pub returns : goal.returns
unfolding authority_verdict
returns c = λ h. search (picks, by-table h)
