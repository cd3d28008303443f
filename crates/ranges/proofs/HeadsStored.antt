-- Informational heads one behind the other in the lent ranges: their kept fields, and the numbers of each head.
use Prim.Native.Nat.{ℕ, ◌+◌, ◌*◌}
use mathlib.Core.Path.{◌≡◌, refl, sym, ap, ◌∙◌}
use mathlib.Core.List.{List, [], ◌∷◌, ◌++◌, append_assoc}
use mathlib.Core.Bool.{true}
use native.Mathlib.Omega.{arith}
use lib.ListN.{length}
use Rattle.output.specs.Splice.{splice}
use Rattle.output.proofs.Laws.{splice-append}
use Rattle.messages.specs.Message.{FieldRead, InformationalRead}
use Rattle.messages.specs.Names.{kept}
use Rattle.messages.specs.Answers.{fields_numbers, informational_numbers, informational_lines}
use Rattle.ranges.specs.Ranges.{Stores}
use Rattle.ranges.proofs.Stored.{numbers-append, numbers-length}
use Rattle.ranges.proofs.Storing.{stores-then}

pub lines_snoc : (is : List InformationalRead) (x : InformationalRead) → informational_lines (is ++ x ∷ []) ≡ informational_lines is ++ kept true x.lines
unfolding informational_lines
lines_snoc [] x = append-nil (kept true x.lines)
  where
    append-nil : (l : List FieldRead) → l ++ [] ≡ l
    append-nil [] = refl
    append-nil (f ∷ l) = ap (λ (l : List FieldRead). f ∷ l) (append-nil l)
lines_snoc (i ∷ is) x = rw (lines_snoc is x) (sym (append_assoc (kept true i.lines) (informational_lines is) (kept true x.lines)))

numbers-snoc : (is : List InformationalRead) (x : InformationalRead)
    → informational_numbers (is ++ x ∷ []) ≡ informational_numbers is ++ x.status ∷ length (kept true x.lines) ∷ []
unfolding informational_numbers
numbers-snoc [] x = refl
numbers-snoc (i ∷ is) x = rw (numbers-snoc is x) refl

numbers-long : (is : List InformationalRead) → length (informational_numbers is) ≡ length is * 2
unfolding informational_numbers
numbers-long [] = refl
numbers-long (i ∷ is) = omega (arith, numbers-long is)

-- the kept fields b of one head more, behind the k fields a
pub fields-more : (a b : List FieldRead) {o₀ o o' : List ℕ} {k : ℕ} → length a ≡ k → Stores o₀ 0 (fields_numbers a) o → Stores o (k * 4) (fields_numbers b) o'
    → Stores o₀ 0 (fields_numbers (a ++ b)) o'
fields-more a b {k = k} c x y =
    let z : k * 4 ≡ 0 + length (fields_numbers a) = omega (arith, numbers-length a, c) in
    rw (numbers-append a b) (stores-then x (rw z at y))

-- the numbers of one head more, which has n kept fields, behind those of k heads
pub numbers_more : (o₀ : List ℕ) (is : List InformationalRead) (x : InformationalRead) {o o' : List ℕ} {k n : ℕ} → length is ≡ k
    → o ≡ splice o₀ 0 (informational_numbers is) → length (kept true x.lines) ≡ n → o' ≡ splice o (k * 2) (x.status ∷ n ∷ [])
    → o' ≡ splice o₀ 0 (informational_numbers (is ++ x ∷ []))
numbers_more o₀ is x {o} {o'} {k} {n} c e f q =
    let z : k * 2 ≡ 0 + length (informational_numbers is) = omega (arith, numbers-long is, c) in
    q ∙ rw (e, z, splice-append o₀ 0 (informational_numbers is) (x.status ∷ n ∷ []), numbers-snoc is x, f) refl
