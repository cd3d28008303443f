use mathlib.Core.Path.{◌≡◌, ◌∙◌}
use native.Mathlib.Omega.{arith}
use Rattle.numbers.proofs.Counting.{count_none, count-start, count-stop, count-more, count-done}
use Rattle.numbers.proofs.digit_count.Goals as goal

pub returns-then-base-eq0 : goal.returns-then-base-eq0
returns-then-base-eq0 c = search count_none

pub loop-k-init : goal.loop-k-init
loop-k-init c = search count-start

pub returns-then-m-base : goal.returns-then-m-base
returns-then-m-base c = search count-stop

pub loop-k-preserved : goal.loop-k-preserved
loop-k-preserved c = search count-more

pub returns : goal.returns
returns c = let e : 20 ≡ c.loop-k.k = omega arith in e ∙ count-done c.loop-k.k c.args.base c.loop-k.m c.loop-k.invariant c.loop-k-test.false
