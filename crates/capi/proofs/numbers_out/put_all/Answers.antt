use borrow.Author.Rules.{rules}
use mathlib.Core.Path.{refl, ◌∙◌}
use Prim.Native.Nat.{ℕ}
use lib.ListN.{length-set}
use Rattle.std.proofs.lemmas.List.{drop_more, drop_all}
use Rattle.output.proofs.Laws.{put-turn}
use Rattle.capi.proofs.numbers_out.put_all.Goals as goal

pub loop-i-preserved : goal.loop-i-preserved
loop-i-preserved c = (search rules, simp length-set (search rules), put-turn c.loop-i.out c.args.at c.loop-i.i _ _ _ (drop_more {X = ℕ} c.args.numbers.now c.loop-i.i 0 c.loop-i-test.true) ∙ c.loop-i.invariant.2)

pub returns : goal.returns
returns c = record { next = refl; size = refl; all = rw (drop_all {X = ℕ} c.loop-i.i c.args.numbers.now c.loop-i-test.false) at c.loop-i.invariant.2 }
