use Rattle.octets.specs.Table.{has_in}
use Rattle.octets.proofs.Kit.{kit}
use Rattle.octets.proofs.has.Goals as goal

pub returns : goal.returns
unfolding has_in
returns c = search kit
