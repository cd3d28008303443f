use mathlib.Core.Path.{refl}
use borrow.Author.Tests.{le-leb}
use native.Mathlib.Omega.{arith}
use Rattle.output.proofs.Room.{puts-part}
use Rattle.output.proofs.Laws.{left-turn, left-none}
use Rattle.ranges.proofs.Content.{content-next, content-none, chunk-within}
use Rattle.ranges.proofs.put_chunks.Goals as goal

pub loop-i-preserved : goal.loop-i-preserved
loop-i-preserved c = let e = content-next c.args.s.now c.args.chunks.now c.args.n c.loop-i.i _ _ c.loop-i-test.true c.number_at-start.ensures.0 c.number_at-len.ensures.0 in left-turn c.loop-i.invariant e (puts-part (le-leb _ _ (chunk-within c.requires.0 c.loop-i-test.true c.number_at-start.ensures.0 c.number_at-len.ensures.0)) c.put_part-a.ensures (omega (arith, e.1, c.loop-i.invariant.next, c.loop-i.invariant.kept, c.requires.1)))

pub returns : goal.returns
returns c = left-none c.loop-i.invariant refl (content-none c.args.s.now c.args.chunks.now c.args.n c.loop-i.i c.loop-i-test.false)
