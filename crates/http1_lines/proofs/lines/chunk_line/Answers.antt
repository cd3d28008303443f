use Rattle.messages.proofs.Picks.{by-table}
use Rattle.http1_lines.proofs.Judges.{chunk-none, chunk-good, chunk-bad}
use Rattle.http1_lines.proofs.lines.chunk_line.Goals as goal

pub returns-then-is_value_from : goal.returns-then-is_value_from
returns-then-is_value_from c = λ h. search (chunk-good, by-table h)

pub returns-else-is_value_from : goal.returns-else-is_value_from
returns-else-is_value_from c = λ h. search (chunk-bad, by-table h)

pub returns-in-None : goal.returns-in-None
returns-in-None c = λ h. search chunk-none
