use mathlib.Core.Path.{refl}
use Rattle.steps.specs.Bodies.{trailer_tally}
use Rattle.steps.proofs.body.with_trailer.Goals as goal

pub returns-then-kept : goal.returns-then-kept
unfolding trailer_tally
returns-then-kept c = rw c.if-kept.true refl

pub returns : goal.returns
unfolding trailer_tally
returns c = rw c.if-kept.false refl
