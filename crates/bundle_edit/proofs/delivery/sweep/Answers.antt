use mathlib.Core.Path.{sym}
use borrow.Author.Tests.{leb-true}
use Rattle.bundle_edit.proofs.Sweeping.{judged-good, sweep-done, sweep-refused}
use Rattle.bundle_edit.proofs.delivery.sweep.Goals as goal

pub count_delivered-requires-clause-used_in_bounds : goal.count_delivered-requires-clause-used_in_bounds
count_delivered-requires-clause-used_in_bounds c = leb-true _ _ (judged-good c.args.n c.args.buf.now c.args.used (sym c.in-Ok.ensures)).within

pub count_delivered-requires-clause-count_value : goal.count_delivered-requires-clause-count_value
count_delivered-requires-clause-count_value c = (judged-good c.args.n c.args.buf.now c.args.used (sym c.in-Ok.ensures)).counted

pub keep_entries-end-requires-clause-used_in_bounds : goal.keep_entries-end-requires-clause-used_in_bounds
keep_entries-end-requires-clause-used_in_bounds c = leb-true _ _ (judged-good c.args.n c.args.buf.now c.args.used (sym c.in-Ok.ensures)).within

pub keep_entries-end-requires-clause-count_value : goal.keep_entries-end-requires-clause-count_value
keep_entries-end-requires-clause-count_value c = (judged-good c.args.n c.args.buf.now c.args.used (sym c.in-Ok.ensures)).counted

pub returns-in-Ok : goal.returns-in-Ok
returns-in-Ok c = sweep-done c.args.n c.args.buf.now c.args.used (judged-good c.args.n c.args.buf.now c.args.used (sym c.in-Ok.ensures)) c.count_delivered.ensures c.keep_entries-end.ensures

pub returns-in-Err : goal.returns-in-Err
returns-in-Err c = sweep-refused c.args.n c.args.buf.now c.args.used (sym c.in-Err.ensures) c.refuse_changes.ensures
