use mathlib.Core.List.{[]}
use native.Mathlib.Omega.{arith}
use Rattle.http1_writer.proofs.Turns.{section-more}
use Rattle.http1_writer.proofs.sections.section_size.Goals as goal

pub loop-i-preserved : goal.loop-i-preserved
loop-i-preserved c = let e = section-more [] c.args.fields.now c.args.k c.args.n c.loop-i.i c.loop-i-test.true in (omega (arith, e.1, c.loop-i.invariant.0, c.number_at.ensures, c.number_at-in-loop-i.ensures), omega (arith, c.loop-i.invariant.1, c.number_at.ensures, c.number_at-in-loop-i.ensures))
