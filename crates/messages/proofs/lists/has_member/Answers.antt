use native.Mathlib.Omega.{arith}
use mathlib.Core.Path.{sym, ◌∙◌}
use Rattle.messages.proofs.Members.{any_found, any-more, any_last}
use Rattle.messages.proofs.lists.has_member.Goals as goal

pub returns-then-is_at : goal.returns-then-is_at
returns-then-is_at c = any_found c.args.name.now c.member_at-m.ensures c.loop-m.invariant.1 c.is_at.ensures c.if-is_at.true

pub returns-then-value-m : goal.returns-then-value-m
returns-then-value-m c = sym c.if-is_at.false ∙ any_last c.args.name.now c.member_at-m.ensures c.loop-m.invariant.1 c.is_at.ensures c.if-value-m.true

pub loop-m-preserved : goal.loop-m-preserved
loop-m-preserved c = (omega arith, any-more c.args.name.now c.member_at-m.ensures c.loop-m.invariant.1 c.is_at.ensures c.if-value-m.false c.if-is_at.false)
