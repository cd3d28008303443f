use Rattle.messages.proofs.Picks.{picks}
use Rattle.binary.specs.Read.{trailers_agree}
use Rattle.binary_reader.proofs.rest.trailers_agree.Goals as goal

pub returns-then-body : goal.returns-then-body
unfolding trailers_agree
returns-then-body c = search picks

pub returns-else-body : goal.returns-else-body
unfolding trailers_agree
returns-else-body c = search picks

pub returns-else-are_trailers : goal.returns-else-are_trailers
unfolding trailers_agree
returns-else-are_trailers c = search picks
