use borrow.Author.Tests.{eq-eqb, ne_eqb}
use Rattle.messages.specs.Rules.{bodyless_rule}
use Rattle.messages.proofs.sections.bodyless_rule.Goals as goal

pub returns-then-status-eq204 : goal.returns-then-status-eq204
unfolding bodyless_rule
returns-then-status-eq204 c = simp (c.nothing_stated.ensures, eq-eqb _ _ c.if-status-eq204.true)

pub returns : goal.returns
unfolding bodyless_rule
returns c = simp (c.length_alone.ensures, ne_eqb _ _ c.if-status-eq204.false)
