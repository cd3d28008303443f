use mathlib.Core.Path.{sym, ◌∙◌}
use Rattle.output.proofs.Laws.{part-whole}
use Rattle.output.proofs.Room.{put_if}
use Rattle.output.proofs.put_text.Goals as goal

pub returns-then-lies_within : goal.returns-then-lies_within
returns-then-lies_within c = put_if (sym c.lies_within.ensures ∙ c.if-lies_within.true) (rw part-whole at c.copy_part.ensures)
