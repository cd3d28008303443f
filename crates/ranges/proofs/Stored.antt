-- The numbers of fields and of chunks one behind the other.
use Prim.Native.Nat.{ℕ, ◌+◌, ◌*◌}
use mathlib.Core.Path.{◌≡◌, refl, ◌∙◌}
use mathlib.Core.List.{List, [], ◌∷◌, ◌++◌}
use native.Mathlib.Omega.{arith}
use lib.ListN.{length}
use Rattle.output.specs.Splice.{splice}
use Rattle.output.proofs.Laws.{splice-append}
use Rattle.script.specs.Do.{Piece}
use Rattle.messages.specs.Message.{FieldRead}
use Rattle.messages.specs.Answers.{fields_numbers, chunks_numbers}

pub numbers-append : (a b : List FieldRead) → fields_numbers (a ++ b) ≡ fields_numbers a ++ fields_numbers b
unfolding fields_numbers
numbers-append [] b = refl
numbers-append (f ∷ a) b = rw (numbers-append a b)

pub numbers-length : (a : List FieldRead) → length (fields_numbers a) ≡ length a * 4
unfolding fields_numbers
numbers-length [] = refl
numbers-length (f ∷ a) = omega (arith, numbers-length a)

-- ---- chunks

pub chunks-append : (a b : List Piece) → chunks_numbers (a ++ b) ≡ chunks_numbers a ++ chunks_numbers b
unfolding chunks_numbers
chunks-append [] b = refl
chunks-append (p ∷ a) b = rw (chunks-append a b)

pub chunks-length : (a : List Piece) → length (chunks_numbers a) ≡ length a * 2
unfolding chunks_numbers
chunks-length [] = refl
chunks-length (p ∷ a) = omega (arith, chunks-length a)

-- one chunk behind others
pub chunk_next : (c : Piece) (cs : List Piece) (o₀ : List ℕ) {o o' : List ℕ} {k n : ℕ} → length c.text ≡ n → length cs ≡ k → o ≡ splice o₀ 0 (chunks_numbers cs)
    → o' ≡ splice o (k * 2) (c.place ∷ n ∷ []) → o' ≡ splice o₀ 0 (chunks_numbers (cs ++ c ∷ []))
unfolding chunks_numbers
chunk_next c cs o₀ {o} {o'} {k} {n} l h e q =
    let z : k * 2 ≡ 0 + length (chunks_numbers cs) = omega (arith, chunks-length cs, h) in
    q ∙ rw (e, z, splice-append o₀ 0 (chunks_numbers cs) (c.place ∷ n ∷ []), chunks-append cs (c ∷ []), l)
