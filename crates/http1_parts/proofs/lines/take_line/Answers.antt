use Rattle.http1_parts.proofs.Line.{line-taken}
use Rattle.http1_parts.proofs.lines.take_line.Goals as goal

pub returns : goal.returns
returns c = line-taken c.args.s.now c.args.i c.args.name c.args.value c.args.len _ _ _ _ _ _ _ c.requires.0 c.requires.3 c.kind_of-kind.ensures c.is_end_to_end.ensures c.keep-k.ensures
