use Rattle.octets.specs.Text.{is_empty}
use Rattle.messages.specs.Control.{is_host}
use Rattle.messages.proofs.Picks.{picks, by-table}
use Rattle.messages.proofs.parts.is_host.Goals as goal

pub returns-then-a-eq0 : goal.returns-then-a-eq0
unfolding is_host is_empty
returns-then-a-eq0 c = λ h. search picks

pub returns-then-fits : goal.returns-then-fits
unfolding is_host is_empty
returns-then-fits c = λ h. search (picks, by-table h)

pub returns : goal.returns
unfolding is_host is_empty
returns c = λ h. search picks
