use mathlib.Core.Path.{sym, ◌∙◌}
use Rattle.http1_writer.proofs.Length.{line-stated, line-length, line-chunked}
use Rattle.http1_writer.proofs.lengths.length_line.Goals as goal

pub returns-then-is_unmeasured : goal.returns-then-is_unmeasured
returns-then-is_unmeasured c = c.stated_line.ensures ∙ line-stated c.args.told c.args.s.now c.args.r c.if-r-eq0.true (sym c.is_unmeasured.ensures ∙ c.if-is_unmeasured.true)

pub returns-then-r-eq0 : goal.returns-then-r-eq0
returns-then-r-eq0 c = line-length c.args.told c.args.s.now c.args.r c.if-r-eq0.true (sym c.is_unmeasured.ensures ∙ c.if-is_unmeasured.false)

pub returns : goal.returns
returns c = line-chunked c.args.told c.args.s.now c.args.r c.if-r-eq0.false
