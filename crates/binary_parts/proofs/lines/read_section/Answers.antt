use native.Mathlib.Omega.{arith}
use mathlib.Core.Path.{refl}
use Rattle.binary_parts.proofs.SectionLines.{section-lines}
use Rattle.binary_parts.proofs.Sections.{gathered-known, gathered-kept}
use Rattle.binary_parts.proofs.lines.read_section.Goals as goal

pub drop_named-left-requires : goal.drop_named-left-requires
drop_named-left-requires c = (gathered-known c.in_ok-end.ensures (section-lines _ c.args.s.now _ c.requires.0 c.requires.3) refl, omega (arith, c.requires.2))

pub returns : goal.returns
returns c = gathered-kept c.in_ok-end.ensures (section-lines _ c.args.s.now _ c.requires.0 c.requires.3) refl c.drop_named-left.ensures
