use Rattle.octets.proofs.Kit.{tests}
use Rattle.steps.specs.States.{is_line}
use Rattle.steps.proofs.change.is_line.Goals as goal

pub returns-then-l-lt-HEAD : goal.returns-then-l-lt-HEAD
unfolding is_line
returns-then-l-lt-HEAD c = search tests

pub returns-else-l-lt-HEAD : goal.returns-else-l-lt-HEAD
unfolding is_line
returns-else-l-lt-HEAD c = search tests

pub returns-else-l-le-HEAD-2 : goal.returns-else-l-le-HEAD-2
unfolding is_line
returns-else-l-le-HEAD-2 c = search tests

pub returns-else-l-le-HEAD : goal.returns-else-l-le-HEAD
unfolding is_line
returns-else-l-le-HEAD c = search tests

pub returns-else-l : goal.returns-else-l
unfolding is_line
returns-else-l c = search tests

pub returns-else-l-le1048576 : goal.returns-else-l-le1048576
unfolding is_line
returns-else-l-le1048576 c = search tests
