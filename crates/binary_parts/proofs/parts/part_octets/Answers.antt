use Rattle.binary_parts.proofs.Places.{octets-short, octets-in}
use Rattle.binary_parts.proofs.parts.part_octets.Goals as goal

pub returns-then-s-at : goal.returns-then-s-at
returns-then-s-at c = octets-short c.args.s.now _ _ _ _ c.requires.0 c.at.ensures c.if-s-at.true

pub returns : goal.returns
returns c = octets-in c.args.s.now _ _ _ _ c.requires.0 c.requires.1 c.if-s-at.false
