use mathlib.Core.Path.{sym, ◌∙◌}
use Rattle.bundle_edit.proofs.Counting.{rebuild-none, rebuild-stops, rebuild-puts}
use Rattle.bundle_edit.proofs.tables.rebuild.Goals as goal

pub returns-then-b-eq0 : goal.returns-then-b-eq0
returns-then-b-eq0 c = rebuild-puts c.args.n c.args.s.now (sym c.is_table.ensures ∙ c.if-is_table.true) c.read_bundle-b.ensures c.if-b-eq0.true c.count_entries.ensures

pub returns-then-is_table : goal.returns-then-is_table
returns-then-is_table c = c.refuse_changes.ensures ∙ rebuild-stops c.args.n c.args.s.now (sym c.is_table.ensures ∙ c.if-is_table.true) c.read_bundle-b.ensures c.if-b-eq0.false

pub returns-else-is_table : goal.returns-else-is_table
returns-else-is_table c = c.refuse_changes-else-is_table.ensures ∙ rebuild-none c.args.n c.args.s.now (sym c.is_table.ensures ∙ c.if-is_table.false)
