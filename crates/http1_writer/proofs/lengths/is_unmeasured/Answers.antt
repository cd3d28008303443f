use mathlib.Core.Path.{◌∙◌}
use Rattle.http1_writer.proofs.Length.{unmeasured-response, unmeasured-empty, unmeasured-full}
use Rattle.http1_writer.proofs.lengths.is_unmeasured.Goals as goal

pub returns-then-r : goal.returns-then-r
returns-then-r c = c.ends_at_head.ensures ∙ unmeasured-response c.args.told c.args.s.now c.args.r c.if-r.true

pub returns-then-r-eq0 : goal.returns-then-r-eq0
returns-then-r-eq0 c = c.is_silent.ensures ∙ unmeasured-empty c.args.told c.args.s.now c.args.r c.if-r.false c.if-r-eq0.true

pub returns : goal.returns
returns c = unmeasured-full c.args.told c.args.s.now c.args.r c.if-r.false c.if-r-eq0.false
