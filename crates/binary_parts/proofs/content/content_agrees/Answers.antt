use Rattle.messages.proofs.Picks.{picks}
use Rattle.binary.specs.Read.{content_agrees}
use Rattle.binary_parts.proofs.content.content_agrees.Goals as goal

pub returns-then-body : goal.returns-then-body
unfolding content_agrees
returns-then-body c = search picks

pub returns-else-body : goal.returns-else-body
unfolding content_agrees
returns-else-body c = search picks

pub returns-else-does_agree : goal.returns-else-does_agree
unfolding content_agrees
returns-else-does_agree c = search picks
