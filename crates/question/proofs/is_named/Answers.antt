use mathlib.Core.Path.{◌∙◌}
use Rattle.question.proofs.Laws.{named}
use Rattle.question.proofs.is_named.Goals as goal

pub returns : goal.returns
returns c = c.same.ensures ∙ named c.args.s.now c.args.ranges.now c.args.name.now c.args.k c.number_at-start.ensures.0 c.number_at-len.ensures.0 c.requires.1
