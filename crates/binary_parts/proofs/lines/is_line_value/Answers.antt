use Rattle.messages.proofs.Picks.{picks}
use Rattle.octets.specs.Text.{is_empty}
use Rattle.binary.specs.Read.{is_line_value}
use Rattle.binary_parts.proofs.lines.is_line_value.Goals as goal

pub returns-then-form : goal.returns-then-form
unfolding is_line_value is_empty
returns-then-form c = search (picks, c.is_trimmed_value.ensures c.args.t.now.whole)

pub returns-else-form : goal.returns-else-form
unfolding is_line_value is_empty
returns-else-form c = search (picks, c.is_trimmed_value.ensures c.args.t.now.whole)

pub returns-else-is_trimmed_value : goal.returns-else-is_trimmed_value
unfolding is_line_value is_empty
returns-else-is_trimmed_value c = search (picks, c.is_trimmed_value.ensures c.args.t.now.whole)
