use Rattle.octets.specs.Text.{is_empty}
use Rattle.messages.specs.Control.{path_verdict}
use Rattle.messages.proofs.Picks.{picks, by-table}
use Rattle.messages.proofs.parts.path_verdict.Goals as goal

pub returns-then-p-eq0 : goal.returns-then-p-eq0
unfolding path_verdict is_empty
returns-then-p-eq0 c = λ h. search picks

pub returns-then-fits : goal.returns-then-fits
unfolding path_verdict is_empty
returns-then-fits c = λ h. search (picks, by-table h)

pub returns-then-all_of : goal.returns-then-all_of
unfolding path_verdict is_empty
returns-then-all_of c = λ h. search (picks, by-table h)

pub returns-then-p-eq47 : goal.returns-then-p-eq47
unfolding path_verdict is_empty
returns-then-p-eq47 c = λ h. search (picks, by-table h)

pub returns : goal.returns
unfolding path_verdict is_empty
returns c = λ h. search picks
