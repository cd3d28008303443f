use Rattle.octets.proofs.Kit.{tests}
use Rattle.steps.specs.States.{is_tally}
use Rattle.steps.proofs.change.is_tally.Goals as goal

pub returns-then-t-le-CONTENT-2 : goal.returns-then-t-le-CONTENT-2
unfolding is_tally
returns-then-t-le-CONTENT-2 c = search tests

pub returns-else-t-le-CONTENT-2 : goal.returns-else-t-le-CONTENT-2
unfolding is_tally
returns-else-t-le-CONTENT-2 c = search tests

pub returns-else-t-le-CONTENT : goal.returns-else-t-le-CONTENT
unfolding is_tally
returns-else-t-le-CONTENT c = search tests

pub returns-else-t-le-CHUNKS : goal.returns-else-t-le-CHUNKS
unfolding is_tally
returns-else-t-le-CHUNKS c = search tests
