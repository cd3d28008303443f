use mathlib.Core.Path.{sym}
use native.Mathlib.Omega.{arith}
use Rattle.ranges.proofs.Entries.{before-next, before-none}
use Rattle.binary_writer.proofs.Steps.{heads-start, heads-size-more, heads-size-none, head_as}
use Rattle.binary_writer.proofs.measure.heads_size.Goals as goal

pub loop-i-init : goal.loop-i-init
loop-i-init c = (omega arith, sym (before-none _), heads-start _ _ _)

pub loop-i-preserved : goal.loop-i-preserved
loop-i-preserved c = (omega (arith, c.head_size-size.ensures.1, c.loop-i.invariant.0), omega (arith, c.loop-i.invariant.1, c.number_at-count.ensures.0, before-next c.args.heads.now c.loop-i.i), omega (arith, c.loop-i.invariant.2, heads-size-more c.args.fields.now c.args.heads.now c.args.n c.loop-i.i c.loop-i-test.true, head_as c.args.fields.now c.args.heads.now c.loop-i.i c.number_at-status.ensures.0 c.loop-i.invariant.1 c.number_at-count.ensures.0 c.head_size-size.ensures.0))

pub returns : goal.returns
returns c = (omega (arith, c.loop-i.invariant.2, heads-size-none c.args.fields.now c.args.heads.now c.args.n c.loop-i.i c.loop-i-test.false), omega (arith, c.requires.1.few, c.loop-i.invariant.0))
