use Rattle.octets.specs.Text.{is_empty}
use Rattle.messages.specs.Control.{method_verdict}
use Rattle.messages.proofs.Picks.{picks, by-table}
use Rattle.messages.proofs.parts.method_verdict.Goals as goal

pub returns-then-m-eq0 : goal.returns-then-m-eq0
unfolding method_verdict is_empty
returns-then-m-eq0 c = λ h. search picks

pub returns-then-is_unsupported : goal.returns-then-is_unsupported
unfolding method_verdict is_empty
returns-then-is_unsupported c = λ h. search (picks, by-table h)

pub returns-then-fits : goal.returns-then-fits
unfolding method_verdict is_empty
returns-then-fits c = λ h. search (picks, by-table h)

pub returns-then-all_of : goal.returns-then-all_of
unfolding method_verdict is_empty
returns-then-all_of c = λ h. search (picks, by-table h)

pub returns : goal.returns
unfolding method_verdict is_empty
returns c = λ h. search (picks, by-table h)
