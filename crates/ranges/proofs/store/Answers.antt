use borrow.Author.Rules.{rules}
use mathlib.Core.Path.{◌∙◌}
use Prim.Native.Nat.{ℕ}
use lib.ListN.{length-set}
use Rattle.std.proofs.lemmas.List.{drop_more, drop_all}
use Rattle.output.proofs.Laws.{put-turn}
use Rattle.ranges.proofs.store.Goals as goal

pub loop-i-preserved : goal.loop-i-preserved
loop-i-preserved g c = (search rules, simp length-set (search rules), put-turn c.loop-i.out _ c.loop-i.i _ _ _ (drop_more {X = ℕ} c.args.numbers c.loop-i.i 0 c.loop-i-test.true) ∙ c.loop-i.invariant.2)

pub returns : goal.returns
returns g c = rw (drop_all {X = ℕ} c.loop-i.i c.args.numbers c.loop-i-test.false) at c.loop-i.invariant.2
