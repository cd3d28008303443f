use native.Mathlib.Omega.{arith}
use borrow.Author.Rules.{rules}
use Rattle.numbers.proofs.ReadInteger.{reads, int-none, int_cut, int-one, in_one, int-done, below-first, below_more, int-first, int-more, in_cut, in-value}
use Rattle.octets.proofs.Kit.{kit}
use Rattle.numbers.proofs.read_int.Goals as goal

pub returns-then-s-at : goal.returns-then-s-at
returns-then-s-at c = (search int-none, search in_cut)

pub returns-then-b-lt64 : goal.returns-then-b-lt64
returns-then-b-lt64 c = (search int-one, search in_one)

pub loop-k-init : goal.loop-k-init
loop-k-init c = (omega arith, search (rules, below-first), search (rules, int-first))

pub returns-then-s-i : goal.returns-then-s-i
returns-then-s-i c = (search (rules, int_cut), search in_cut)

pub overflow_mul-v : goal.overflow_mul-v
overflow_mul-v c = search (kit, reads)

pub overflow_add-v : goal.overflow_add-v
overflow_add-v c = search (kit, reads)

pub loop-k-preserved : goal.loop-k-preserved
loop-k-preserved c = (omega arith, search (rules, below_more), search (rules, int-more))

pub returns : goal.returns
returns c = (search (rules, int-done), search (rules, in-value))
