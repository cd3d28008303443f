use Rattle.step_lines.proofs.Moving.{value-kept}
use Rattle.step_lines.proofs.room.keep_value.Goals as goal

pub returns : goal.returns
returns c = value-kept _ _ _ _ _ c.requires.0 c.requires.1 c.move_down.ensures
