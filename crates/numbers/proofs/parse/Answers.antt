use borrow.Author.Rules.{rules}
use native.Mathlib.Omega.{arith}
use Rattle.numbers.proofs.ReadDigits.{num-none, num-first, num-bad, num-more, num-done}
use Rattle.numbers.proofs.parse.Goals as goal

pub returns-then-is_empty : goal.returns-then-is_empty
returns-then-is_empty c = search (rules, num-none)

pub loop-b-init : goal.loop-b-init
loop-b-init c = (omega arith, search (rules, num-first))

pub loop-b-preserved : goal.loop-b-preserved
loop-b-preserved c = (search rules, search num-more)

pub returns-else-d-base : goal.returns-else-d-base
returns-else-d-base c = search num-bad

pub returns : goal.returns
returns c = search num-done
