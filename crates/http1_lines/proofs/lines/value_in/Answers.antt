use Rattle.http1_lines.proofs.Judges.{value-good, value-bad, span-by-table}
use Rattle.http1_lines.proofs.lines.value_in.Goals as goal

pub returns-then-span-w : goal.returns-then-span-w
returns-then-span-w c = λ h. search (value-good, span-by-table h)

pub returns : goal.returns
returns c = λ h. search (value-bad, span-by-table h)
