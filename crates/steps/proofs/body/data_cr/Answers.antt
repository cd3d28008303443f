use Rattle.octets.proofs.Kit.{tests}
use Rattle.steps.specs.Bodies.{data_cr}
use Rattle.steps.proofs.body.data_cr.Goals as goal

pub returns-then-b-eq13 : goal.returns-then-b-eq13
unfolding data_cr
returns-then-b-eq13 c = search tests

pub returns-then-st : goal.returns-then-st
unfolding data_cr
returns-then-st c = search tests

pub returns : goal.returns
unfolding data_cr
returns c = search tests
