use borrow.Author.Rules.{rules}
use Rattle.octets.proofs.Texts.{all_more, all-stop, all_done}
use Rattle.octets.proofs.all_of.Goals as goal

pub loop-i-preserved : goal.loop-i-preserved
loop-i-preserved c = search (rules, all_more)

pub returns-then-not-has : goal.returns-then-not-has
returns-then-not-has c = search (rules, all-stop)

pub returns : goal.returns
returns c = search (rules, all_done)
