use mathlib.Core.Path.{sym}
use borrow.Author.Tests.{leb-true}
use Rattle.bundle_edit.proofs.Sweeping.{judged-good, mark-done, mark-refused}
use Rattle.bundle_edit.proofs.delivery.mark.Goals as goal

pub mark_entry-requires-clause-used_in_bounds : goal.mark_entry-requires-clause-used_in_bounds
mark_entry-requires-clause-used_in_bounds c = leb-true _ _ (judged-good c.args.n c.args.buf.now c.args.used (sym c.in-Ok.ensures)).within

pub mark_entry-requires-clause-count_value : goal.mark_entry-requires-clause-count_value
mark_entry-requires-clause-count_value c = (judged-good c.args.n c.args.buf.now c.args.used (sym c.in-Ok.ensures)).counted

pub returns-in-Ok : goal.returns-in-Ok
returns-in-Ok c = mark-done c.args.n c.args.buf.now c.args.used c.args.entry (judged-good c.args.n c.args.buf.now c.args.used (sym c.in-Ok.ensures)) c.mark_entry.ensures

pub returns-in-Err : goal.returns-in-Err
returns-in-Err c = mark-refused c.args.n c.args.buf.now c.args.used c.args.entry (sym c.in-Err.ensures) c.idle_plan.ensures
