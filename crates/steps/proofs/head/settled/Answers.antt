use mathlib.Core.Path.{refl}
use Rattle.steps.proofs.Picks.{settled-given, settled-host}
use Rattle.steps.proofs.head.settled.Goals as goal

pub returns-then-c : goal.returns-then-c
returns-then-c c = settled-given _ _ c.count-n.ensures refl c.if-c.true c.with_tally.ensures

pub returns : goal.returns
returns c = settled-host _ _ c.count-n.ensures refl c.if-c.false c.move_down.ensures c.host_behind-d.ensures c.with_control-s.ensures c.with_tally-2.ensures
