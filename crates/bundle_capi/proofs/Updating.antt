-- What the walks over the lent table rest on: where a plan's record stands, and a table of which the first records are changed.
use Prim.Native.Nat.{ℕ, zero, suc, ◌<◌, ◌+◌, ◌-◌}
use native.Mathlib.Nat.{add-zero, zero-add}
use mathlib.Core.Path.{◌≡◌, refl, sym, ap, ◌∙◌}
use mathlib.Core.List.{List, [], ◌∷◌}
use native.Mathlib.Omega.{arith}
use borrow.Author.Tests.{eqb-true}
use lib.ListN.{length, get_or, set}
use lib.Dec.{eqb}
use Rattle.std.proofs.Common.{Some, Result, Ok}
use Rattle.octets.proofs.Kit.{either}
use Rattle.bundle.specs.Bundle.{is_flock}
use Rattle.flock_table.specs.Table.{none, slot_of}
use Rattle.flock_table.specs.declared.Flock.{Flock}
use Rattle.octets.specs.declared.Refusal.{Refusal}
use Rattle.flock_table.proofs.Counted.{flock-least}
use Rattle.bundle_edit.specs.Append.{append_plan}
use Rattle.bundle_edit.specs.Changes.{changed, changed_from}
use Rattle.bundle_edit.specs.declared.Plan.{Plan}
use Rattle.bundle_edit.specs.declared.Changes.{Changes}
use Rattle.bundle_edit.specs.Delivery.{mark_plan}
use Rattle.bundle_edit.proofs.Appends as appends
use Rattle.bundle_edit.proofs.Sweeping as sweeping

-- ---- where the record stands

pub slot-index : (n f : ℕ) {i : ℕ} → Ok i ≡ slot_of n f → i < n
unfolding slot_of
slot-index n f {i} e =
    let Q : Result ℕ Refusal → Type 0 = λ (s : Result ℕ Refusal). Ok i ≡ s → i < n in
    either Q (eqb n 127) _ _
    (λ a.
    either Q (is_flock f) _ _
    (λ h q. let b = flock-least f h in let z = eqb-true n 127 a in let k : i ≡ f - 1 = cc in omega (arith, b.0, b.1, z, k))
    (λ _ q. let z : ◌≡◌ {A = ℕ} 0 1 = cc in absurd (omega arith)))
    (λ _ q. let z : ◌≡◌ {A = ℕ} 0 1 = cc in absurd (omega arith))
    e

pub append-index : (n : ℕ) (b : List ℕ) (used f : ℕ) (m : List ℕ) {r : Plan} {k : ℕ} → r ≡ append_plan n b used f m → r.index ≡ Some k → k < n
append-index n b used f m e h = appends.append-index n b used f m (sym (ap (λ (p : Plan). p.index) e) ∙ h)

pub mark-index : (n : ℕ) (b : List ℕ) (used i : ℕ) {r : Plan} {k : ℕ} → r ≡ mark_plan n b used i → r.index ≡ Some k → k < n
mark-index n b used i e h = sweeping.mark-index n b used i (sym (ap (λ (p : Plan). p.index) e) ∙ h)

-- ---- the first m records changed, the k-th being the first of the list: what a loop has done after m turns

unfoldable pub changed_first : Changes → ℕ → ℕ → List Flock → List Flock
changed_first c k zero l = l
changed_first c k (suc m) [] = []
changed_first c k (suc m) (r ∷ rs) = changed c k r ∷ changed_first c (k + 1) m rs

pub first-length : (c : Changes) (k m : ℕ) (l : List Flock) → length (changed_first c k m l) ≡ length l
unfolding changed_first
first-length c k zero l = refl
first-length c k (suc m) [] = refl
first-length c k (suc m) (r ∷ rs) = ap suc (first-length c (k + 1) m rs)

pub first-all : (c : Changes) (k : ℕ) (l : List Flock) → changed_first c k (length l) l ≡ changed_from c k l
unfolding changed_first changed_from
first-all c k [] = refl
first-all c k (r ∷ rs) = ap (λ (l : List Flock). changed c k r ∷ l) (first-all c (k + 1) rs)

first_step : (c : Changes) (k m : ℕ) (l : List Flock) → m < length l
    → set (changed_first c k m l) m (changed c (k + m) (get_or (changed_first c k m l) m none)) ≡ changed_first c k (suc m) l
unfolding changed_first
first_step c k m [] h = absurd (omega (arith, h))
first_step c k zero (r ∷ rs) h = ap (λ (i : ℕ). changed c i r ∷ rs) (add-zero k)
first_step c k (suc m) (r ∷ rs) h =
    ap (λ (l : List Flock). changed c k r ∷ l)
    (ap (λ (i : ℕ). set (changed_first c (k + 1) m rs) m (changed c i (get_or (changed_first c (k + 1) m rs) m none))) (omega arith)
    ∙ first_step c (k + 1) m rs (omega (arith, h)))

-- one turn more
pub first_next : (c : Changes) (m : ℕ) (l : List Flock) → m < length l
    → set (changed_first c 0 m l) m (changed c m (get_or (changed_first c 0 m l) m none)) ≡ changed_first c 0 (m + 1) l
first_next c m l h =
    ap (λ (i : ℕ). set (changed_first c 0 m l) m (changed c i (get_or (changed_first c 0 m l) m none))) (sym (zero-add m))
    ∙ first_step c 0 m l h ∙ ap (λ (i : ℕ). changed_first c 0 i l) (omega arith)
