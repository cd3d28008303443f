use mathlib.Core.Path.{sym}
use native.Mathlib.Omega.{arith}
use Rattle.ranges.proofs.Entries.{before-next, before-none}
use Rattle.ranges.proofs.fields_before.Goals as goal

pub loop-i-init : goal.loop-i-init
loop-i-init c = (omega arith, sym (before-none _))

pub loop-i-preserved : goal.loop-i-preserved
loop-i-preserved c = (omega (arith, c.number_at-k.ensures), omega (arith, c.number_at-k.ensures, c.loop-i.invariant.1, before-next c.args.heads.now c.loop-i.i))
