use native.Mathlib.Omega.{arith}
use Rattle.binary_parts.proofs.Sections.{header-none, header-some}
use Rattle.binary_parts.proofs.lines.header_section.Goals as goal

pub returns-then-is_headless : goal.returns-then-is_headless
returns-then-is_headless c = header-none _ c.args.s.now _ c.is_headless.ensures c.if-is_headless.true c.requires.0 c.requires.3 c.no_notes.ensures (omega (arith, c.requires.2))

pub returns-else-is_headless : goal.returns-else-is_headless
returns-else-is_headless c = header-some _ c.args.s.now _ c.is_headless.ensures c.if-is_headless.false c.read_section.ensures
