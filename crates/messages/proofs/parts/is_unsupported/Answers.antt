use Rattle.messages.specs.Control.{is_unsupported}
use Rattle.messages.proofs.Picks.{picks}
use Rattle.messages.proofs.parts.is_unsupported.Goals as goal

pub returns : goal.returns
unfolding is_unsupported
returns c = search picks
