-- The code's chains and comparisons by std's list functions, in the words of the definitions.
use Prim.Native.Nat.{ℕ}
use mathlib.Core.Path.{◌≡◌, refl, sym, ap, ap₂, ◌∙◌}
use mathlib.Core.List.{List, [], ◌∷◌, map}
use mathlib.Core.Bool.{Bool, true, false, cond, ◌&&◌}
use lib.Dec.{eqb}
use lib.ListN.{length}
use native.Mathlib.Omega.{arith}
use Rattle.std.proofs.lemmas.Bool.Decides.{nat_tests}
use Rattle.std.specs.List.{list_all, zip}
use Rattle.std.specs.Bool.{IsTrue}
use mathlib.Core.Logic.{◌↔◌}
use Rattle.std.specs.Char.{to_ascii_lowercase}
use Rattle.std.specs.Cmp.Lexicographic.{pointwise}
use Rattle.octets.specs.Text.{all, lower_of, same_text}
use Rattle.octets.proofs.Texts.{same_refl, same-eq}

-- two tests of each octet, in one walk
pub both-list_all : (p q : ℕ → Bool) (s : List ℕ) → list_all (λ b. p b && q b) s ≡ cond (all p s) (all q s) false
unfolding all
both-list_all p q [] = refl
both-list_all p q (b ∷ s) = rw (both-list_all p q s) (pick (p b) (q b) (all p s) (all q s))
  where
    pick : (t u v w : Bool) → ((t && u) && cond v w false) ≡ cond (t && v) (u && w) false
    pick true u true w = refl
    pick true true false w = refl
    pick true false false w = refl
    pick false u v w = refl

pub pointwise-same : (s t : List ℕ) → pointwise eqb s t ≡ same_text s t
unfolding same_text
pointwise-same [] [] = refl
pointwise-same [] (y ∷ t) = refl
pointwise-same (x ∷ s) [] = refl
pointwise-same (x ∷ s) (y ∷ t) = ap (λ w. eqb x y && w) (pointwise-same s t)

-- octet beside octet, where the lengths agree
pub zip-same : (f : ℕ → ℕ) (s t : List ℕ) → length s ≡ length t → list_all (λ (w : ℕ × ℕ). eqb (f w.0) w.1) (zip s t) ≡ same_text (map f s) t
unfolding same_text
zip-same f [] [] h = refl
zip-same f [] (y ∷ t) h = absurd (omega arith)
zip-same f (x ∷ s) [] h = absurd (omega arith)
zip-same f (x ∷ s) (y ∷ t) h = ap (λ w. eqb (f x) y && w) (zip-same f s t (omega arith))

-- ---- lower case

pub lower-ascii : (b : ℕ) → to_ascii_lowercase b ≡ lower_of b
unfolding lower_of
lower-ascii b = grind (arith, nat_tests)

pub map-lower : (s : List ℕ) → map to_ascii_lowercase s ≡ map lower_of s
map-lower [] = refl
map-lower (b ∷ s) = ap₂ ◌∷◌ (lower-ascii b) (map-lower s)

-- what a test that decides an equation of texts answers
pub decided : (s t : List ℕ) (r : Bool) → IsTrue r ↔ (s ≡ t) → r ≡ same_text s t
decided s t true h = sym (ap (same_text s) (sym (h.0 refl)) ∙ same_refl s)
decided s t false h = go (same_text s t) refl
  where
    go : (w : Bool) → same_text s t ≡ w → false ≡ w
    go true e = h.1 (same-eq s t e)
    go false e = refl

pub ignoring_case : (s t : List ℕ) (r : Bool) → IsTrue r ↔ (map to_ascii_lowercase s ≡ map to_ascii_lowercase t)
    → r ≡ same_text (map lower_of s) (map lower_of t)
ignoring_case s t r h = simp map-lower at (decided (map to_ascii_lowercase s) (map to_ascii_lowercase t) r h)
