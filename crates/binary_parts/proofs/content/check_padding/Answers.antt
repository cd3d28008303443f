use native.Mathlib.Omega.{arith}
use Rattle.binary_parts.proofs.PaddingLaws.{padding-zero, padding-other, padding-end}
use Rattle.binary_parts.proofs.content.check_padding.Goals as goal

pub loop-i-preserved : goal.loop-i-preserved
loop-i-preserved c = λ n. padding-zero c.args.form c.args.s.now c.loop-i.i n (c.loop-i.invariant n) c.loop-i-test.true c.is_padding.ensures c.if-not-is_padding.false

pub returns-then-not-is_padding : goal.returns-then-not-is_padding
returns-then-not-is_padding c = padding-other c.args.form c.args.s.now c.loop-i.i c.args.from.long (c.loop-i.invariant c.args.from.long) c.loop-i-test.true c.is_padding.ensures c.at.ensures c.if-not-is_padding.true

pub returns : goal.returns
returns c = padding-end c.args.form c.args.s.now c.loop-i.i c.args.from.long (c.loop-i.invariant c.args.from.long) (omega arith) c.loop-i-test.false
