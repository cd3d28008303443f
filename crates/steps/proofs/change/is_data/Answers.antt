use Rattle.octets.proofs.Kit.{tests}
use Rattle.steps.specs.States.{is_data}
use Rattle.steps.proofs.change.is_data.Goals as goal

pub returns-then-l : goal.returns-then-l
unfolding is_data
returns-then-l c = search tests

pub returns-else-l : goal.returns-else-l
unfolding is_data
returns-else-l c = search tests

pub returns-else-l-le1048576 : goal.returns-else-l-le1048576
unfolding is_data
returns-else-l-le1048576 c = search tests
