use Rattle.messages.specs.Names.{kind_of}
use Rattle.messages.proofs.Picks.{picks}
use Rattle.messages.proofs.parts.kind_by_names.Goals as goal

pub returns-then-same : goal.returns-then-same
unfolding kind_of
returns-then-same c = search picks

pub returns-then-same-2 : goal.returns-then-same-2
unfolding kind_of
returns-then-same-2 c = search picks

pub returns-then-same-3 : goal.returns-then-same-3
unfolding kind_of
returns-then-same-3 c = search picks

pub returns-then-same-4 : goal.returns-then-same-4
unfolding kind_of
returns-then-same-4 c = search picks

pub returns-then-is_hop_by_hop : goal.returns-then-is_hop_by_hop
unfolding kind_of
returns-then-is_hop_by_hop c = search picks

pub returns : goal.returns
unfolding kind_of
returns c = search picks
