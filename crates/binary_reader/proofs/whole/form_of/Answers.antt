use Rattle.messages.proofs.Picks.{picks}
use Rattle.binary.specs.Read.{form_of}
use Rattle.binary_reader.proofs.whole.form_of.Goals as goal

pub returns-then-edition-eq0 : goal.returns-then-edition-eq0
unfolding form_of
returns-then-edition-eq0 c = search picks

pub returns-else-edition-eq0 : goal.returns-else-edition-eq0
unfolding form_of
returns-else-edition-eq0 c = search picks
