use mathlib.Core.Path.{refl, sym}
use native.Mathlib.Omega.{arith}
use Rattle.output.proofs.Laws.{left-none}
use Rattle.ranges.proofs.Entries.{before-next, before-none}
use Rattle.binary_writer.proofs.Lengths.{heads-length}
use Rattle.binary_writer.proofs.Steps.{heads-size-more, heads-size-none, head_as, within-as, heads-begin, left-head, heads-bytes-none}
use Rattle.binary_writer.proofs.put.put_heads.Goals as goal

pub loop-i-init : goal.loop-i-init
loop-i-init c = (sym (before-none _), heads-begin _ _ _ _ _ _)

pub put_head-a-requires : goal.put_head-a-requires
put_head-a-requires c = (omega (arith, c.number_at-status.ensures.1), within-as c.loop-i.invariant.0 c.number_at-count.ensures.0 (c.requires.0.each c.loop-i.i c.loop-i-test.true), omega (arith, c.requires.1, c.loop-i.invariant.1.next, c.loop-i.invariant.1.kept, heads-size-more c.args.fields.now c.args.heads.now c.args.n c.loop-i.i c.loop-i-test.true, head_as c.args.fields.now c.args.heads.now c.loop-i.i c.number_at-status.ensures.0 c.loop-i.invariant.0 c.number_at-count.ensures.0 refl))

pub loop-i-preserved : goal.loop-i-preserved
loop-i-preserved c = (omega (arith, c.loop-i.invariant.0, c.number_at-count.ensures.0, before-next c.args.heads.now c.loop-i.i), left-head c.args.s.now c.args.fields.now c.args.heads.now c.args.n c.loop-i.i c.loop-i-test.true c.number_at-status.ensures.0 c.loop-i.invariant.0 c.number_at-count.ensures.0 c.loop-i.invariant.1 c.put_head-a.ensures)

pub returns : goal.returns
returns c = left-none c.loop-i.invariant.1 (heads-length c.args.s.now c.args.fields.now c.args.heads.now 0 c.args.n) (heads-bytes-none c.args.s.now c.args.fields.now c.args.heads.now c.args.n c.loop-i.i c.loop-i-test.false, heads-size-none c.args.fields.now c.args.heads.now c.args.n c.loop-i.i c.loop-i-test.false)
