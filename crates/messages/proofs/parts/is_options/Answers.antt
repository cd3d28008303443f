use Rattle.messages.specs.Control.{is_options}
use Rattle.messages.proofs.Picks.{picks}
use Rattle.messages.proofs.parts.is_options.Goals as goal

pub returns : goal.returns
unfolding is_options
returns c = search picks
