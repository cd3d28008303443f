use Rattle.messages.specs.Names.{is_hop_by_hop}
use Rattle.messages.proofs.Picks.{picks}
use Rattle.messages.proofs.parts.is_hop_by_hop.Goals as goal

pub returns-then-same : goal.returns-then-same
unfolding is_hop_by_hop
returns-then-same c = search picks

pub returns-then-same-2 : goal.returns-then-same-2
unfolding is_hop_by_hop
returns-then-same-2 c = search picks

pub returns-then-same-3 : goal.returns-then-same-3
unfolding is_hop_by_hop
returns-then-same-3 c = search picks

pub returns : goal.returns
unfolding is_hop_by_hop
returns c = search picks
