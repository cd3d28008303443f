use Rattle.std.proofs.Common.{rules}
use native.Mathlib.Omega.{arith}
use Rattle.listing.proofs.Laws.{row-none, row-message, row-refused, refused-in, row_more}
use Rattle.listing.proofs.next_row.Goals as goal

pub returns-then-s-at : goal.returns-then-s-at
returns-then-s-at c = row-none c.args.s.now c.args.at c.if-s-at.true

pub returns-in-Err-More : goal.returns-in-Err-More
returns-in-Err-More c = row_more c.args.s.now c.args.at c.plain.ensures c.request_in-o.ensures c.if-s-at.false (search rules)

pub overflow_add-result : goal.overflow_add-result
overflow_add-result c = omega (arith, refused-in c.args.s.now c.args.at c.plain.ensures c.request_in-o.ensures c.in-Err-Refused.e.number c.in-Err-Refused.e.place (search rules) c.requires)

pub returns-in-Err-Refused : goal.returns-in-Err-Refused
returns-in-Err-Refused c = row-refused c.args.s.now c.args.at c.plain.ensures c.request_in-o.ensures c.in-Err-Refused.e.number c.in-Err-Refused.e.place (search rules)

pub returns-in-Ok : goal.returns-in-Ok
returns-in-Ok c = row-message c.args.s.now c.args.at c.plain.ensures c.request_in-o.ensures _ c.in-Ok.is
