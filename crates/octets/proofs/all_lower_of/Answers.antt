use Prim.Native.Nat.{ℕ}
use mathlib.Core.Bool.{Bool, ◌&&◌}
use mathlib.Core.Path.{◌∙◌}
use Rattle.std.proofs.Common.{rules, tests}
use Rattle.std.proofs.lemmas.Iterator.{YieldsList-from_slice}
use Rattle.std.proofs.lemmas.Iterator.Search.{all_from_yields_List}
use Rattle.octets.specs.Table.{has_in}
use Rattle.octets.specs.Text.{is_lower}
use Rattle.octets.proofs.Lists.{both-list_all}
use Rattle.octets.proofs.all_lower_of.Goals as goal

pub returns : goal.returns
returns c =
    let both : ℕ → Bool = λ b. has_in c.args.t.now c.args.mask b && is_lower b in
    all_from_yields_List both _ _ _ c.all.ensures.ran (YieldsList-from_slice c.args.s.now cc) (λ x b q k. search (rules, tests))
    ∙ both-list_all (has_in c.args.t.now c.args.mask) is_lower c.args.s.now
