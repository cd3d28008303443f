use mathlib.Core.Path.{sym}
use native.Mathlib.Omega.{arith}
use Rattle.ranges.proofs.Entries.{before-next, before-none}
use Rattle.output.proofs.Laws.{left-turn, left-none}
use Rattle.http1_writer.proofs.Turns.{heads-start, heads-length, head-next, head-none}
use Rattle.http1_writer.proofs.heads.put_heads.Goals as goal

pub loop-i-init : goal.loop-i-init
loop-i-init c = (sym (before-none _), heads-start c.args.s.now c.args.fields.now c.args.heads.now c.args.n _ _)

pub loop-i-preserved : goal.loop-i-preserved
loop-i-preserved c = let e = head-next c.args.s.now c.args.fields.now c.args.heads.now c.args.n c.loop-i.i _ _ _ c.loop-i-test.true c.number_at-status.ensures.0 c.number_at-count.ensures.0 c.loop-i.invariant.0 in (omega (arith, before-next c.args.heads.now c.loop-i.i, c.number_at-count.ensures.0, c.loop-i.invariant.0), left-turn c.loop-i.invariant.1 e c.put_informational-a.ensures)

pub returns : goal.returns
returns c = left-none c.loop-i.invariant.1 (heads-length c.args.s.now c.args.fields.now c.args.heads.now 0 c.args.n) (head-none c.args.s.now c.args.fields.now c.args.heads.now c.args.n c.loop-i.i c.loop-i-test.false)
