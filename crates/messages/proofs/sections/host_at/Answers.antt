use native.Mathlib.Omega.{arith}
use Rattle.messages.specs.Notes.{host_at}
use Rattle.messages.proofs.Picks.{picks}
use Rattle.messages.proofs.Hosting.{inside-sum, host-yes, host-no}
use Rattle.messages.proofs.sections.host_at.Goals as goal

pub overflow_add-end : goal.overflow_add-end
unfolding host_at
overflow_add-end c = omega (arith, inside-sum c.args.s.now c.args.start c.args.len c.is_inside.ensures c.if-is_inside.true)

pub slice_bounds-is_host-end : goal.slice_bounds-is_host-end
unfolding host_at
slice_bounds-is_host-end c = search inside-sum

pub returns-then-is_host : goal.returns-then-is_host
unfolding host_at
returns-then-is_host c = λ h. search (host-yes, c.is_host.ensures h)

pub returns-else-is_host : goal.returns-else-is_host
unfolding host_at
returns-else-is_host c = λ h. search (host-no, c.is_host.ensures h)

pub returns-else-is_inside : goal.returns-else-is_inside
unfolding host_at
returns-else-is_inside c = λ h. search picks
