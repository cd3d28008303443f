use mathlib.Core.Path.{refl, ◌∙◌}
use Prim.Native.Nat.{ℕ, ◌+◌}
use lib.ListN.{length-set}
use borrow.Author.Rules.{rules}
use Rattle.output.proofs.Laws.{elements-length, elements-more, elements-none, put-turn}
use Rattle.output.proofs.copy_part.Goals as goal

pub loop-i-preserved : goal.loop-i-preserved
loop-i-preserved c = (
  search rules,
  simp length-set (search rules),
  put-turn c.loop-i.out c.args.at c.loop-i.i _ _ _ (elements-more {A = ℕ} 0 c.args.src.now c.args.from c.loop-i.i c.args.len c.loop-i-test.true) ∙ c.loop-i.invariant.2,
)

pub returns : goal.returns
returns c = record {
  next = refl;
  size = elements-length {A = ℕ} 0 c.args.src.now c.args.from c.args.len;
  all = rw (elements-none {A = ℕ} 0 c.args.src.now (c.args.from + c.loop-i.i) c.loop-i.i c.args.len c.loop-i-test.false) at c.loop-i.invariant.2;
}
