use mathlib.Core.Path.{sym, ◌∙◌}
use Rattle.messages.specs.Rules.{response_body}
use Rattle.messages.proofs.sections.response_body.Goals as goal

pub returns-then-ends_at_head : goal.returns-then-ends_at_head
unfolding response_body
returns-then-ends_at_head c = simp (c.bodyless_rule.ensures, sym c.ends_at_head.ensures ∙ c.if-ends_at_head.true)

pub returns : goal.returns
unfolding response_body
returns c = simp (c.content_body.ensures, sym c.ends_at_head.ensures ∙ c.if-ends_at_head.false)
