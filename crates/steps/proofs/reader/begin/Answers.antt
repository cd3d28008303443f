use Rattle.steps.proofs.Turns.{begun-small, begun-good, begun-not}
use Rattle.steps.proofs.reader.begin.Goals as goal

pub returns-then-room-lt-HEAD : goal.returns-then-room-lt-HEAD
returns-then-room-lt-HEAD c = begun-small _ _ c.first-s.ensures c.if-room-lt-HEAD.true c.refused.ensures

pub returns-then-is_scheme : goal.returns-then-is_scheme
returns-then-is_scheme c = begun-good _ _ c.first-s.ensures c.if-room-lt-HEAD.false c.is_scheme.ensures c.if-is_scheme.true

pub returns : goal.returns
returns c = begun-not _ _ c.first-s.ensures c.if-room-lt-HEAD.false c.is_scheme.ensures c.if-is_scheme.false c.refused-2.ensures
