use Rattle.ranges.proofs.Dropping.{name-here, name-other}
use Rattle.ranges.proofs.named.has_name.Goals as goal

pub returns-then-len-name : goal.returns-then-len-name
returns-then-len-name c = name-here c.args.s.now c.args.ranges.now c.args.name.now c.args.k c.number_at-len.ensures.0 c.number_at-start.ensures.0 c.requires.1 c.same_name.ensures

pub returns : goal.returns
returns c = name-other c.args.s.now c.args.ranges.now c.args.name.now c.args.k c.number_at-len.ensures.0 c.if-len-name.false
