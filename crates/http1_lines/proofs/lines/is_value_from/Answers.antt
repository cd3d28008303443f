use Rattle.http1_lines.proofs.Judges.{all_past}
use Rattle.http1_lines.proofs.lines.is_value_from.Goals as goal

pub returns-then-w-from : goal.returns-then-w-from
returns-then-w-from c = search all_past
