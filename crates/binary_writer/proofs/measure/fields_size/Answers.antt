use native.Mathlib.Omega.{arith}
use Rattle.binary_writer.proofs.Steps.{size-more, size_none}
use Rattle.binary_writer.proofs.measure.fields_size.Goals as goal

pub loop-i-preserved : goal.loop-i-preserved
loop-i-preserved c = (omega (arith, c.entry_size-size.ensures.1), omega (arith, c.entry_size-size.ensures.0, c.loop-i.invariant.1, size-more c.args.ranges.now c.args.k c.args.n c.loop-i.i c.loop-i-test.true))

pub returns : goal.returns
returns c = (omega (arith, c.loop-i.invariant.1, size_none c.args.ranges.now c.args.k c.args.n c.loop-i.i c.loop-i-test.false), omega arith)
