use Rattle.messages.specs.Control.{ends_at_head}
use Rattle.messages.proofs.Picks.{picks}
use Rattle.messages.proofs.parts.ends_at_head.Goals as goal

pub returns-then-is_bodyless : goal.returns-then-is_bodyless
unfolding ends_at_head
returns-then-is_bodyless c = search picks

pub returns : goal.returns
unfolding ends_at_head
returns c = search picks
