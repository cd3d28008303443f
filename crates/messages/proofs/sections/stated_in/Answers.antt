use Rattle.messages.specs.Rules.{stated_in}
use Rattle.messages.proofs.Picks.{picks}
use Rattle.messages.proofs.sections.stated_in.Goals as goal

pub returns-then-ends_at_head : goal.returns-then-ends_at_head
unfolding stated_in
returns-then-ends_at_head c = search picks

pub returns : goal.returns
unfolding stated_in
returns c = search picks
