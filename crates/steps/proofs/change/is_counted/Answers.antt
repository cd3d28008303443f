use Rattle.octets.proofs.Kit.{tests}
use Rattle.steps.specs.States.{is_counted}
use Rattle.steps.proofs.change.is_counted.Goals as goal

pub returns-then-st-le-HEAD-2 : goal.returns-then-st-le-HEAD-2
unfolding is_counted
returns-then-st-le-HEAD-2 c = search (tests, c.is_tally.ensures)

pub returns-else-st-le-HEAD-2 : goal.returns-else-st-le-HEAD-2
unfolding is_counted
returns-else-st-le-HEAD-2 c = search tests

pub returns-else-st-le-HEAD : goal.returns-else-st-le-HEAD
unfolding is_counted
returns-else-st-le-HEAD c = search tests

pub returns-else-st-le-LINES : goal.returns-else-st-le-LINES
unfolding is_counted
returns-else-st-le-LINES c = search tests
