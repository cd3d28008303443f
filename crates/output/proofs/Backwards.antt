-- The turns of a loop that puts a number's places, the last first: the places that are left, put into what there is, give the same at each turn.
-- Assumes nothing.
use mathlib.Core.Path.{◌≡◌, sym, ap, ◌∙◌}
use mathlib.Core.List.{List, [], ◌∷◌}
use Prim.Native.Nat.{ℕ, zero, suc, ◌+◌, ◌-◌, ◌/◌, ◌%◌, ◌<◌, ◌≤◌}
use native.Mathlib.Nat.{mod-lt}
use native.Mathlib.Omega.{arith}
use lib.ListN.{length, set}
use Rattle.numbers.specs.Places.{push}
use Rattle.numbers.specs.Integer.{int_len, tag_of, plain, int_bytes}
use Rattle.numbers.specs.Digits.{char_of, count_of, digits}
use Rattle.numbers.proofs.Places.{push-append, push-length}
use Rattle.numbers.proofs.IntegerLaws.{int-length}
use Rattle.numbers.proofs.DigitLaws.{digits-length}
use Rattle.output.specs.Splice.{splice, Put}
use Rattle.output.proofs.Laws.{splice-before}

unfoldable pub to_put : (ℕ → ℕ) → ℕ → ℕ → ℕ → ℕ → List ℕ → List ℕ
to_put sign base at k w o = splice o at (push sign base k w [])

module _ (sign : ℕ → ℕ) (base at : ℕ) {z : List ℕ} where
  pub put-place : (k w : ℕ) (o : List ℕ) {x : ℕ} → 0 < k → x ≡ sign (w % base) → to_put sign base at k w o ≡ z
      → to_put sign base at (k - 1) (w / base) (set o (at + (k - 1)) x) ≡ z
  unfolding to_put push
  put-place zero w o h ex e = absurd (omega arith)
  put-place (suc k) w o {x} h ex e =
      let a = push sign base k (w / base) [] in
      let i : at + (suc k - 1) ≡ at + length a = rw (push-length sign base k (w / base) []) (omega arith) in
      let m : suc k - 1 ≡ k = omega arith in
      rw (i, m, ex) (splice-before o at a (sign (w % base) ∷ []) ∙ ap (splice o at) (sym (push-append sign base k (w / base) (sign (w % base) ∷ []))) ∙ e)

  pub put_last : (k w : ℕ) (o : List ℕ) → k ≤ 0 → to_put sign base at k w o ≡ z → o ≡ z
  unfolding to_put push
  put_last zero w o h e = e
  put_last (suc k) w o h e = absurd (omega arith)

pub rem-small : (w base : ℕ) → 2 ≤ base → base ≤ 16 → w % base < 16
rem-small w base h p = let q : 0 < base = omega arith in omega (arith, mod-lt w q)

-- ---- at the end of the loops
module _ (at : ℕ) (o o' : List ℕ) (k w : ℕ) {n : ℕ} (h : k ≤ 0) where
  pub put-int-end : (v : ℕ) {t : ℕ} → n ≡ int_len v → t ≡ tag_of v → to_put plain 256 at k w o' ≡ to_put plain 256 at n (v + t) o
      → Put o at (int_bytes v) (int_len v) o' (at + n)
  unfolding int_bytes to_put
  put-int-end v en et e =
      record { next = rw en; size = int-length v; all = rw (en, et) at (put_last plain 256 at k w o' h e) }

  pub put-digits-end : (base m : ℕ) → n ≡ count_of base m → to_put char_of base at k w o' ≡ to_put char_of base at n m o
      → Put o at (digits base m) (count_of base m) o' (at + n)
  unfolding digits to_put
  put-digits-end base m en e =
      record { next = rw en; size = digits-length base m; all = rw en at (put_last char_of base at k w o' h e) }
