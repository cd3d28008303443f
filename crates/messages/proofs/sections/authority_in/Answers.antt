use Rattle.messages.specs.Notes.{authority_noted}
use Rattle.messages.proofs.Picks.{picks}
use Rattle.messages.proofs.sections.authority_in.Goals as goal

pub returns-then-len-eq0 : goal.returns-then-len-eq0
unfolding authority_noted
returns-then-len-eq0 c = λ h. search (picks, c.host_in.ensures h)

pub returns : goal.returns
unfolding authority_noted
returns c = λ h. search picks
