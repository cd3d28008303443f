use Rattle.steps.proofs.Rooms.{target-moved}
use Rattle.steps.proofs.head.hold_target.Goals as goal

pub returns : goal.returns
returns c = target-moved _ _ _ c.requires.0 c.requires.2 c.move_down.ensures c.move_down-2.ensures
