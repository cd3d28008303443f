use Rattle.step_lines.proofs.Counting.{worth-by, worth-not}
use Rattle.step_lines.proofs.names.worth_of.Goals as goal
use Rattle.step_lines.proofs.names.worth_of.Goals.{then-is_name, else-is_name}

pub returns : goal.returns
returns c = elim c.if-is_name.branch [
  | then-is_name w ↦ worth-by _ _ c.is_name.ensures w.if-is_name.true _ w.is_named.ensures w.from-is c.from.ensures
  | else-is_name w ↦ worth-not _ _ c.is_name.ensures w.if-is_name.false w.from-is c.from.ensures
]
