use Rattle.messages.specs.Control.{asterisk_verdict}
use Rattle.messages.proofs.Picks.{picks}
use Rattle.messages.proofs.parts.asterisk_verdict.Goals as goal

pub returns-then-equal : goal.returns-then-equal
unfolding asterisk_verdict
returns-then-equal c = search picks

pub returns-else-equal : goal.returns-else-equal
unfolding asterisk_verdict
returns-else-equal c = search picks

pub returns-else-options : goal.returns-else-options
unfolding asterisk_verdict
returns-else-options c = search picks
