-- What holds of every refusal of a reader (00, demand 1: "A refusal names its number and the byte where it arose"; 01, "Numbers a call answers with").
use Rattle.std.specs.Prelude.{ℕ, ◌≤◌, ◌≡◌, Bool, true, false, cond, List, [], ◌∷◌, eqb, length}

-- whether a number is one of these
abbrev pub is_one_of : List ℕ → ℕ → Bool
is_one_of [] n = false
is_one_of (k ∷ ks) n = cond (eqb k n) true (is_one_of ks n)

-- a refusal of the input s: its number is one of those that the reader refuses with, and its place is an octet of the input, or the one behind its last, where
-- something is missing
pub record Refusal (numbers s : List ℕ) (number place : ℕ) : Type 0 where
  pub of_form : is_one_of numbers number ≡ true
  pub inside : place ≤ length s
