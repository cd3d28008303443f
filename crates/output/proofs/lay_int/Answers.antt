use native.Mathlib.Omega.{arith}
use lib.ListN.{length-set}
use borrow.Author.Rules.{rules}
use Rattle.numbers.proofs.IntegerForm.{fits-tag}
use Rattle.output.proofs.Backwards.{put-place, put-int-end}
use Rattle.output.proofs.lay_int.Goals as goal

pub overflow_add-w : goal.overflow_add-w
overflow_add-w c = search fits-tag

pub loop-k-preserved : goal.loop-k-preserved
loop-k-preserved c = (simp length-set (search rules), simp length-set (omega arith), search put-place)

pub returns : goal.returns
returns c = search put-int-end
