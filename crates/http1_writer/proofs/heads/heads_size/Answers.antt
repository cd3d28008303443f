use mathlib.Core.Path.{sym}
use mathlib.Core.List.{[]}
use native.Mathlib.Nat.{sub-zero}
use native.Mathlib.Omega.{arith}
use Rattle.ranges.proofs.Entries.{before-next, before-none}
use Rattle.http1_writer.proofs.Turns.{head-next}
use Rattle.http1_writer.proofs.heads.heads_size.Goals as goal

pub loop-i-init : goal.loop-i-init
loop-i-init c = (sym (before-none _), rw sub-zero (omega arith), omega arith)

pub loop-i-preserved : goal.loop-i-preserved
loop-i-preserved c = let e = head-next [] c.args.fields.now c.args.heads.now c.args.n c.loop-i.i _ _ _ c.loop-i-test.true c.number_at-status.ensures.0 c.number_at-count.ensures.0 c.loop-i.invariant.0 in (omega (arith, before-next c.args.heads.now c.loop-i.i, c.number_at-count.ensures.0, c.loop-i.invariant.0), omega (arith, e.1, c.loop-i.invariant.1, c.status_size.ensures.0, c.section_size.ensures.0), omega (arith, c.loop-i.invariant.2, c.status_size.ensures.1, c.section_size.ensures.1))
