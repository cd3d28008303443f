use Rattle.steps.proofs.Turns.{line-is, counts-are, line-none, line-uncounted, line-taken}
use Rattle.steps.proofs.reader.take_line.Goals as goal

pub line_octet-requires : goal.line_octet-requires
line_octet-requires c = (line-is _ _ c.is_line.ensures c.if-is_line.true, counts-are _ c.is_counted.ensures c.if-is_counted.true, c.requires)

pub returns-then-is_counted : goal.returns-then-is_counted
returns-then-is_counted c = line-taken _ _ _ c.is_line.ensures c.if-is_line.true c.is_counted.ensures c.if-is_counted.true c.line_octet.ensures

pub returns-then-is_line : goal.returns-then-is_line
returns-then-is_line c = line-uncounted _ _ _ c.is_line.ensures c.if-is_line.true c.is_counted.ensures c.if-is_counted.false

pub returns : goal.returns
returns c = line-none _ _ _ c.is_line.ensures c.if-is_line.false
