-- The value of the one walk over an integer's octets, for every width at once.
-- Assumes nothing.
use mathlib.Core.Path.{◌≡◌, refl, ap₂, ◌∙◌}
use mathlib.Core.Bool.{Bool, true, false}
use mathlib.Core.List.{List, [], ◌∷◌}
use Prim.Native.Nat.{ℕ, zero, suc, ◌+◌, ◌*◌, ◌^◌, ◌≤◌}
use native.Mathlib.Nat.{pow-succ', pow-zero, add-mul, mul_assoc, add_assoc, mul-one, add-zero}
use native.Mathlib.Omega.{arith}
use borrow.Author.Tests.{ltb-true, ltb-false, lt-ltb, le-ltb}
use lib.Dec.{ltb}
use lib.ListN.{length, take}
use Rattle.std.proofs.Common.{Option, Some}
use Rattle.numbers.specs.Integer.{read_more, read_int, extra_of, long_of, integer_of}
use Rattle.numbers.specs.Walk.{big_endian, value_walked, walked, OneWalk}
use Rattle.numbers.specs.declared.Integer.{Integer}

-- the octets of a front that is there
take-length : (n : ℕ) (s : List ℕ) → n ≤ length s → length (take n s) ≡ n
take-length zero s h = refl
take-length (suc n) [] h = absurd (omega arith)
take-length (suc n) (b ∷ s) h = let q = take-length n s (omega arith) in omega arith

-- one octet more in front of n others
one-more : (n v b : ℕ) (s : List ℕ) → n ≤ length s → (v * 256 + b) * 256 ^ n + big_endian (take n s) ≡ v * 256 ^ suc n + big_endian (b ∷ take n s)
unfolding big_endian
one-more n v b s h = rw (take-length n s h, pow-succ', add-mul, mul_assoc, add_assoc)

-- a value with a place, of an integer of w octets
abbrev value_at : ℕ → ℕ → ℕ → Option Integer
value_at w v at = Some (integer_of v at (long_of w v))

walk-value : (w n v at : ℕ) (s : List ℕ) → read_more w n v at s ≡ walked w n v at s
unfolding read_more walked value_walked big_endian
walk-value w zero v at s = rw (le-ltb (length s) 0 (omega arith)) (ap₂ (value_at w) (rw (pow-zero, mul-one, add-zero) refl) (omega arith))
walk-value w (suc n) v at [] = rw (lt-ltb 0 (suc n) (omega arith))
walk-value w (suc n) v at (b ∷ s) = walk-value w n (v * 256 + b) (at + 1) s ∙ go (ltb (length s) n) refl
  where
    go : (t : Bool) → ltb (length s) n ≡ t → walked w n (v * 256 + b) (at + 1) s ≡ walked w (suc n) v at (b ∷ s)
    go true e = rw (e, lt-ltb (suc (length s)) (suc n) (omega (arith, ltb-true (length s) n e)))
    go false e =
        rw (e, le-ltb (suc (length s)) (suc n) (omega (arith, ltb-false (length s) n e)))
        (ap₂ (value_at w) (one-more n v b s (ltb-false (length s) n e)) (omega arith))

pub one-walk : OneWalk
unfolding read_int
one-walk = record { walk = walk-value; every-width = λ b at s. walk-value _ (extra_of b) _ _ s }
