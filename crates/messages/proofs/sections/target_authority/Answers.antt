use Rattle.messages.specs.Notes.{target_noted}
use Rattle.messages.proofs.Picks.{picks}
use Rattle.messages.proofs.sections.target_authority.Goals as goal

pub returns-then-len-eq0 : goal.returns-then-len-eq0
unfolding target_noted
returns-then-len-eq0 c = λ h. search (picks, c.host_in.ensures h)

pub returns : goal.returns
unfolding target_noted
returns c = λ h. search picks
