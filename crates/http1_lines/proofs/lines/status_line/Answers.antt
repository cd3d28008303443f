use Rattle.http1_lines.proofs.Judges.{status-shape, status-on}
use Rattle.http1_lines.proofs.lines.status_line.Goals as goal

pub returns-then-is_status_shape : goal.returns-then-is_status_shape
returns-then-is_status_shape c = λ h. search (status-on, c.is_status_shape.ensures.1 h)

pub returns-else-is_status_shape : goal.returns-else-is_status_shape
returns-else-is_status_shape c = λ h. search (status-shape, c.is_status_shape.ensures.1 h)
