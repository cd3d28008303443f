use mathlib.Core.Path.{sym, ◌∙◌}
use Rattle.bundle_edit.proofs.Appends.{beside-served, beside_none}
use Rattle.bundle_edit.proofs.append_beside.Goals as goal

pub returns-then-is_table : goal.returns-then-is_table
returns-then-is_table c = beside-served c.args.buf.now c.args.used c.args.flock c.args.message.now c.args.n (sym c.is_table.ensures ∙ c.if-is_table.true) c.append_within.ensures

pub returns : goal.returns
returns c = rw c.at.ensures (beside_none c.args.buf.now c.args.used c.args.flock c.args.message.now c.args.n (sym c.is_table.ensures ∙ c.if-is_table.false))
