use native.Mathlib.Omega.{arith}
use Rattle.messages.specs.Notes.{is_same_host}
use Rattle.messages.proofs.Picks.{picks}
use Rattle.messages.proofs.Hosting.{inside-sum, same-host}
use Rattle.messages.proofs.sections.is_same_host.Goals as goal

pub overflow_add-end : goal.overflow_add-end
unfolding is_same_host
overflow_add-end c = omega (arith, inside-sum c.args.s.now c.args.start c.args.len c.is_inside.ensures c.if-is_inside.true)

pub overflow_add-to : goal.overflow_add-to
unfolding is_same_host
overflow_add-to c = omega (arith, inside-sum c.args.s.now c.args.from c.args.many c.is_inside-then-is_inside.ensures c.if-is_inside-2.true)

pub slice_bounds-equal-end : goal.slice_bounds-equal-end
unfolding is_same_host
slice_bounds-equal-end c = search inside-sum

pub slice_bounds-equal-end-then-is_inside-2 : goal.slice_bounds-equal-end-then-is_inside-2
unfolding is_same_host
slice_bounds-equal-end-then-is_inside-2 c = search inside-sum

pub returns-then-is_inside-2 : goal.returns-then-is_inside-2
unfolding is_same_host
returns-then-is_inside-2 c = search same-host

pub returns-else-is_inside-2 : goal.returns-else-is_inside-2
unfolding is_same_host
returns-else-is_inside-2 c = search picks

pub returns-else-is_inside : goal.returns-else-is_inside
unfolding is_same_host
returns-else-is_inside c = search picks
