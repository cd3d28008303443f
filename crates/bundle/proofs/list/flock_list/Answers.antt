use mathlib.Core.Path.{sym, ◌∙◌}
use Rattle.bundle.proofs.Lists.{list-stops, list-flockless, list-served}
use Rattle.bundle.proofs.list.flock_list.Goals as goal

pub returns-then-is_flock : goal.returns-then-is_flock
returns-then-is_flock c = list-served c.args.flock c.args.s.now c.read_bundle-b.ensures c.if-b-eq0.true (sym c.is_flock.ensures ∙ c.if-is_flock.true) c.write_list.ensures

pub returns-then-b-eq0 : goal.returns-then-b-eq0
returns-then-b-eq0 c = rw c.at.ensures (list-flockless c.args.flock c.args.s.now c.read_bundle-b.ensures c.if-b-eq0.true _ (sym c.is_flock.ensures ∙ c.if-is_flock.false))

pub returns : goal.returns
returns c = list-stops c.args.flock c.args.s.now c.read_bundle-b.ensures _ c.if-b-eq0.false
