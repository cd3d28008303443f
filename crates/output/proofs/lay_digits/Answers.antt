use native.Mathlib.Omega.{arith}
use lib.ListN.{length-set}
use borrow.Author.Rules.{rules}
use Rattle.output.proofs.Backwards.{put-place, put-digits-end}
use Rattle.output.proofs.lay_digits.Goals as goal

pub loop-j-preserved : goal.loop-j-preserved
loop-j-preserved c = (simp length-set (search rules), simp length-set (omega arith), search put-place)

pub returns : goal.returns
returns c = search put-digits-end
