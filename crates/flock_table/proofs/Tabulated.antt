-- A true table is `tabulate 127 1 (the totals of a flock)`: what a read and a store do to such a list.
use Prim.Native.Nat.{ℕ, zero, suc, ◌+◌, ◌<◌, ◌≤◌}
use mathlib.Core.Path.{◌≡◌, refl, sym, ap, ◌∙◌}
use mathlib.Core.List.{List, ◌∷◌}
use native.Mathlib.Omega.{arith}
use native.Mathlib.Nat.{add-zero}
use lib.ListN.{length, get_or, set}
use Rattle.flock_table.specs.Tabulate.{tabulate}

pub tabulate-length : {X : Type 0} (n k : ℕ) (g : ℕ → X) → length (tabulate n k g) ≡ n
unfolding tabulate
tabulate-length zero k g = refl
tabulate-length (suc n) k g = ap suc (tabulate-length n (k + 1) g)

-- the i-th element
pub tabulate-at : {X : Type 0} (n k i : ℕ) (g : ℕ → X) (d : X) → i < n → get_or (tabulate n k g) i d ≡ g (k + i)
unfolding tabulate
tabulate-at zero k i g d l = absurd (omega (arith, l))
tabulate-at (suc n) k zero g d l = ap g (sym (add-zero k))
tabulate-at (suc n) k (suc i) g d l = tabulate-at n (k + 1) i g d (omega (arith, l)) ∙ ap g (omega arith)

-- two that agree
pub tabulate-same : {X : Type 0} (n k : ℕ) (g h : ℕ → X) → ((j : ℕ) → k ≤ j → g j ≡ h j) → tabulate n k g ≡ tabulate n k h
unfolding tabulate
tabulate-same {X = X} zero k g h e = refl
tabulate-same {X = X} (suc n) k g h e = ap (λ (x : X). x ∷ tabulate n (k + 1) g) (e k (omega arith)) ∙ ap (λ (l : List X). h k ∷ l) (tabulate-same n (k + 1) g h (λ j le. e j (omega (arith, le))))

-- one element changed: a store
pub tabulate-set : {X : Type 0} (n k i : ℕ) (g h : ℕ → X) → i < n → ((j : ℕ) → (j ≡ k + i → ⊥) → g j ≡ h j) → set (tabulate n k g) i (h (k + i)) ≡ tabulate n k h
unfolding tabulate
tabulate-set {X = X} zero k i g h l e = absurd (omega (arith, l))
tabulate-set {X = X} (suc n) k zero g h l e = ap (λ (x : X). x ∷ tabulate n (k + 1) g) (ap h (add-zero k)) ∙ ap (λ (l : List X). h k ∷ l) (tabulate-same n (k + 1) g h (λ j le. e j (λ is. omega (arith, le, is))))
tabulate-set {X = X} (suc n) k (suc i) g h l e =
    ap (λ (x : X). x ∷ set (tabulate n (k + 1) g) i (h (k + suc i))) (e k (λ is. omega (arith, is)))
    ∙ ap (λ (m : List X). h k ∷ m) (ap (λ (j : ℕ). set (tabulate n (k + 1) g) i (h j)) (omega arith) ∙ tabulate-set n (k + 1) i g h (omega (arith, l)) (λ j no. e j (λ is. no (omega (arith, is)))))
