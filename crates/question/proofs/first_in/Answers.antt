use mathlib.Core.Path.{sym, ap, ◌∙◌}
use Rattle.std.proofs.Common.{Some}
use Rattle.messages.specs.declared.Span.{Span}
use Rattle.question.proofs.Laws.{found_here, found-behind, found_none}
use Rattle.question.proofs.first_in.Goals as goal

pub returns-then-is_named : goal.returns-then-is_named
returns-then-is_named c = ap (λ (x : Span). Some x) c.value_of.ensures ∙ sym (found_here c.args.s.now c.args.ranges.now c.args.name.now c.args.k c.loop-i.i c.args.n c.loop-i-test.true (sym c.if-is_named.true ∙ c.is_named.ensures)) ∙ c.loop-i.invariant

pub loop-i-preserved : goal.loop-i-preserved
loop-i-preserved c = sym (found-behind c.args.s.now c.args.ranges.now c.args.name.now c.args.k c.loop-i.i c.args.n c.loop-i-test.true (sym c.if-is_named.false ∙ c.is_named.ensures)) ∙ c.loop-i.invariant

pub returns : goal.returns
returns c = sym (found_none c.args.s.now c.args.ranges.now c.args.name.now c.args.k c.loop-i.i c.args.n c.loop-i-test.false) ∙ c.loop-i.invariant
