use borrow.Author.Rules.{rules}
use Prim.Native.Nat.{◌-◌}
use Rattle.steps.proofs.Running.{run-again, run-pass, run_settled, run_end}
use Rattle.steps.proofs.many.run.Goals as goal

pub returns-then-is_settled : goal.returns-then-is_settled
returns-then-is_settled c = run_settled c.loop-i.invariant c.if-room-lt-HEAD.false c.loop-i-test.true c.is_settled.ensures c.if-is_settled.true c.answer-a.ensures

pub loop-i-preserved-then-n-eq0 : goal.loop-i-preserved-then-n-eq0
loop-i-preserved-then-n-eq0 c = run-again c.loop-i.invariant c.loop-i-test.true c.is_settled.ensures c.if-is_settled.false (search rules) c.take_octet-x.ensures c.further-i.ensures

pub loop-i-preserved : goal.loop-i-preserved
loop-i-preserved c = run-pass c.loop-i.invariant c.loop-i-test.true c.may_pass-n.ensures c.if-n-eq0.false c.pass-x.ensures c.further-i-else-n-eq0.ensures

pub returns : goal.returns
returns c = run_end c.loop-i.invariant c.if-room-lt-HEAD.false c.loop-i-test.false c.answer-z.ensures
