use Rattle.http1_writer.specs.Write.{is_get_or_head}
use Rattle.messages.proofs.Picks.{picks}
use Rattle.http1_writer.proofs.lengths.is_get_or_head.Goals as goal

pub returns-then-equal : goal.returns-then-equal
unfolding is_get_or_head
returns-then-equal c = search picks

pub returns : goal.returns
unfolding is_get_or_head
returns c = search picks
