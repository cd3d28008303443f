use Rattle.step_lines.proofs.Moving.{name-kept}
use Rattle.step_lines.proofs.room.keep_name.Goals as goal

pub returns : goal.returns
returns c = name-kept _ _ _ c.requires c.put_lower.ensures
