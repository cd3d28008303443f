use native.Mathlib.Omega.{arith}
use Rattle.output.proofs.Laws.{left-none}
use Rattle.binary_writer.proofs.Lengths.{fields-length}
use Rattle.binary_writer.proofs.Steps.{size-more, size_none, left-field, fields-bytes-none}
use Rattle.binary_writer.proofs.put.put_fields.Goals as goal

pub put_entry-a-requires : goal.put_entry-a-requires
put_entry-a-requires c = (omega (arith, c.requires.0.entries), c.requires.0.each c.loop-i.i c.loop-i-test.true, omega (arith, c.requires.1, c.loop-i.invariant.next, c.loop-i.invariant.kept, size-more c.args.ranges.now c.args.k c.args.n c.loop-i.i c.loop-i-test.true))

pub loop-i-preserved : goal.loop-i-preserved
loop-i-preserved c = left-field c.args.s.now c.args.ranges.now c.args.k c.args.n c.loop-i.i c.loop-i-test.true c.loop-i.invariant c.put_entry-a.ensures

pub returns : goal.returns
returns c = left-none c.loop-i.invariant (fields-length c.args.s.now c.args.ranges.now c.args.k c.args.n) (fields-bytes-none c.args.s.now c.args.ranges.now c.args.k c.args.n c.loop-i.i c.loop-i-test.false, size_none c.args.ranges.now c.args.k c.args.n c.loop-i.i c.loop-i-test.false)
