use Rattle.ranges.proofs.Leaving.{named-dropped, none_dropped, values-gathered}
use Rattle.ranges.proofs.named.drop_named.Goals as goal

pub drop_values-requires : goal.drop_values-requires
drop_values-requires c = values-gathered c.requires.0 c.requires.1

pub returns-then-connections-gt0 : goal.returns-then-connections-gt0
returns-then-connections-gt0 c = named-dropped c.if-headers.true c.requires.1 c.drop_values.ensures

pub returns-else-connections-gt0 : goal.returns-else-connections-gt0
returns-else-connections-gt0 c = none_dropped c.if-headers.true c.if-connections-gt0.false
