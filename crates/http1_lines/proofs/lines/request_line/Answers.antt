use Rattle.http1_lines.proofs.Judges.{spaces-none, spaces-one, request-on}
use Rattle.http1_lines.proofs.lines.request_line.Goals as goal

pub returns-then-w-m : goal.returns-then-w-m
returns-then-w-m c = λ h. search spaces-none

pub returns-then-w-e : goal.returns-then-w-e
returns-then-w-e c = λ h. search spaces-one

pub returns : goal.returns
returns c = λ h. search (request-on, c.request_version.ensures h)
