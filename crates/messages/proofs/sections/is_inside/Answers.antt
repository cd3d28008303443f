use Rattle.octets.proofs.Kit.{kit}
use Rattle.messages.specs.Notes.{is_inside}
use Rattle.messages.proofs.sections.is_inside.Goals as goal

pub returns-then-start-s : goal.returns-then-start-s
unfolding is_inside
returns-then-start-s c = search kit

pub returns : goal.returns
unfolding is_inside
returns c = search kit
