use mathlib.Core.Path.{refl, ap, ◌∙◌}
use mathlib.Core.List.{map}
use Prim.Native.Nat.{ℕ, ◌+◌}
use lib.ListN.{length-set, length-map}
use borrow.Author.Rules.{rules}
use Rattle.octets.specs.Text.{lower_of}
use Rattle.output.proofs.Laws.{elements-length, elements-more, elements-none, put-turn}
use Rattle.output.proofs.copy_lower.Goals as goal

pub loop-i-preserved : goal.loop-i-preserved
loop-i-preserved c = (
  search rules,
  simp length-set (search rules),
  rw c.lower.ensures
      (put-turn c.loop-i.out c.args.at c.loop-i.i _ _ _ (ap (map lower_of) (elements-more {A = ℕ} 0 c.args.src.now c.args.from c.loop-i.i c.args.len c.loop-i-test.true))
      ∙ c.loop-i.invariant.2),
)

pub returns : goal.returns
returns c = record {
  next = refl;
  size = simp (length-map, elements-length);
  all = rw (elements-none {A = ℕ} 0 c.args.src.now (c.args.from + c.loop-i.i) c.loop-i.i c.args.len c.loop-i-test.false) at c.loop-i.invariant.2;
}
