use Rattle.binary_parts.proofs.Line.{line-wrong, line-good}
use Rattle.binary_parts.proofs.lines.store_line.Goals as goal

pub returns-then-not-is_line : goal.returns-then-not-is_line
returns-then-not-is_line c = line-wrong _ _ _ _ _ _ c.is_line.ensures c.at.ensures c.if-not-is_line.true

pub returns : goal.returns
returns c = line-good _ _ _ _ _ _ c.is_line.ensures c.if-not-is_line.false c.kind_of-kind.ensures c.is_end_to_end.ensures c.keep-kept.ensures
