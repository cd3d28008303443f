use mathlib.Core.Path.{refl}
use Rattle.steps.proofs.Picks.{host-given, host-new}
use Rattle.steps.proofs.head.host_from.Goals as goal

pub returns-then-c : goal.returns-then-c
returns-then-c c = host-given _ _ _ c.if-c.true

pub returns : goal.returns
returns c = host-new _ _ _ c.if-c.false refl
