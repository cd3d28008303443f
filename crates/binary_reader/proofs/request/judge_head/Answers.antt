use mathlib.Core.Path.{sym, ◌∙◌}
use Rattle.binary_reader.proofs.RequestHeads.{judged-host, judged-length, judged-good}
use Rattle.binary_reader.proofs.request.judge_head.Goals as goal

pub returns-in_default : goal.returns-in_default
returns-in_default c = judged-host c.args.s.now _ _ _ c.requires c.at.ensures (sym (c.in_default.ensures c.args.t.now.whole))

pub returns-then-is_clashing : goal.returns-then-is_clashing
returns-then-is_clashing c = judged-length c.args.s.now _ _ _ c.requires (sym (c.in-Some.ensures c.args.t.now.whole)) c.at-then-is_clashing.ensures (sym c.is_clashing.ensures ∙ c.if-is_clashing.true)

pub returns-else-is_clashing : goal.returns-else-is_clashing
returns-else-is_clashing c = judged-good c.args.s.now _ _ _ c.requires (sym (c.in-Some.ensures c.args.t.now.whole)) (sym c.is_clashing.ensures ∙ c.if-is_clashing.false)
