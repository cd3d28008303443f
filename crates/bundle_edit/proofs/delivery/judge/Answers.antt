use mathlib.Core.Path.{sym, ◌∙◌}
use Rattle.bundle_edit.proofs.Sweeping.{judge-none, judge-past, judge-stops, judge-good}
use Rattle.bundle_edit.proofs.delivery.judge.Goals as goal

pub returns-then-b-eq0 : goal.returns-then-b-eq0
returns-then-b-eq0 c = judge-good c.args.n c.args.buf.now c.args.used (sym c.is_table.ensures ∙ c.if-is_table.true) c.if-used-buf.true c.front_bundle-b.ensures c.if-b-eq0.true

pub returns-then-used-buf : goal.returns-then-used-buf
returns-then-used-buf c = judge-stops c.args.n c.args.buf.now c.args.used (sym c.is_table.ensures ∙ c.if-is_table.true) c.if-used-buf.true c.front_bundle-b.ensures c.if-b-eq0.false

pub returns-then-is_table : goal.returns-then-is_table
returns-then-is_table c = rw c.at.ensures (judge-past c.args.n c.args.buf.now c.args.used (sym c.is_table.ensures ∙ c.if-is_table.true) c.if-used-buf.false)

pub returns : goal.returns
returns c = rw c.at-2.ensures (judge-none c.args.n c.args.buf.now c.args.used (sym c.is_table.ensures ∙ c.if-is_table.false))
