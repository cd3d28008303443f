-- Laws of `splice` and `part`.
-- Assumes nothing.
use mathlib.Core.Logic.{◌≢◌}
use mathlib.Core.Path.{◌≡◌, refl, sym, ap, ◌∙◌}
use mathlib.Core.List.{List, [], ◌∷◌, ◌++◌, append_assoc}
use borrow.Rule.Slice.PartMut.{put_mid}
use Prim.Native.Nat.{ℕ, zero, suc, ◌+◌, ◌-◌, ◌≤◌, ◌<◌}
use native.Mathlib.Nat.{add-zero}
use native.Mathlib.Numerals.{add-one}
use native.Mathlib.Omega.{arith}
use lib.ListN.{length, get_or, set, take, drop, length-set, length-append, take-append-drop}
use lib.Seq.{drop-cons, drop-drop, take-length, drop-set-add, take-set-le, set_comm, sets, sets-eq}
use Rattle.output.specs.Splice.{splice, elements, part, Put, Left}

pub splice-length : (o : List ℕ) (at : ℕ) (bs : List ℕ) → length (splice o at bs) ≡ length o
splice-length o at [] = refl
splice-length o at (b ∷ bs) = splice-length (set o at b) (at + 1) bs ∙ length-set o at b

pub splice-append : (o : List ℕ) (at : ℕ) (a b : List ℕ) → splice (splice o at a) (at + length a) b ≡ splice o at (a ++ b)
splice-append o at [] b = rw add-zero
splice-append o at (x ∷ a) b =
    let e : at + suc (length a) ≡ at + 1 + length a = omega arith in
    rw e (splice-append (set o at x) (at + 1) a b)

module _ {A : Type 0} (d : A) where
  pub elements-length : (l : List A) (from n : ℕ) → length (elements d l from n) ≡ n
  elements-length l from zero = refl
  elements-length l from (suc n) = ap suc (elements-length l (from + 1) n)

  -- where one is left at least: the first, and the others
  pub elements-more : (l : List A) (from i n : ℕ) → i < n
      → elements d l (from + i) (n - i) ≡ get_or l (from + i) d ∷ elements d l (from + (i + 1)) (n - (i + 1))
  elements-more l from i n h =
      let e : n - i ≡ suc (n - (i + 1)) = omega arith in
      let a : from + (i + 1) ≡ from + i + 1 = omega arith in
      rw (e, a)

  -- where none is left
  pub elements-none : (l : List A) (from i n : ℕ) → n ≤ i → elements d l from (n - i) ≡ []
  elements-none l from i n h =
      let e : n - i ≡ 0 = omega arith in
      rw e

  -- within the list they are what `take` and `drop` say
  pub elements-take : (l : List A) (from n : ℕ) → from + n ≤ length l → elements d l from n ≡ take n (drop from l)
  elements-take l from zero h = refl
  elements-take l from (suc n) h =
      let lt : from < length l = omega arith in
      let k : from + 1 + n ≤ length l = omega arith in
      rw (drop-cons l from d, ← add-one from, elements-take l (from + 1) n k)

pub part-whole : (s : List ℕ) → part s 0 (length s) ≡ s
part-whole s = elements-take 0 s 0 (length s) (omega arith) ∙ take-length s

-- a turn of a loop that writes: the octet that it stores is the first of those that were left
pub put-turn : (o : List ℕ) (at i b : ℕ) (bs rest : List ℕ) → bs ≡ b ∷ rest → splice (set o (at + i) b) (at + (i + 1)) rest ≡ splice o (at + i) bs
put-turn o at i b bs rest e =
    let a : at + (i + 1) ≡ at + i + 1 = omega arith in
    rw (e, a)

-- two writers one after the other
pub put_then : {o o₁ o₂ a b : List ℕ} {at m n r₁ r₂ : ℕ} → Put o at a m o₁ r₁ → Put o₁ r₁ b n o₂ r₂ → Put o at (a ++ b) (m + n) o₂ r₂
put_then {o} {o₁} {o₂} {a} {b} {at} {m} {n} p q =
    let e : at + m ≡ at + length a = omega (arith, p.size) in
    record {
      next = omega (arith, p.next, q.next);
      size = rw (length-append a b) (omega (arith, p.size, q.size));
      all = q.all ∙ rw (p.all, p.next, e) (splice-append o at a b);
    }

-- the count said in another way
pub put_count : {o o₁ a : List ℕ} {at m n r : ℕ} → m ≡ n → Put o at a m o₁ r → Put o at a n o₁ r
put_count e p = rw e at p

-- a write said in other words
pub put_as : {o o₁ a b : List ℕ} {at m n r : ℕ} → (b ≡ a) × (n ≡ m) → Put o at a m o₁ r → Put o at b n o₁ r
put_as e p = rw (e.0, e.1) p

-- a run of writes: where it begins, a write of it, and where it ends
pub left-start : (o : List ℕ) (at : ℕ) (bs : List ℕ) (n : ℕ) → Left o at bs n o at bs n
left-start o at bs n = record { next = refl; kept = refl; all = refl }

pub left_step : {o₀ bs₀ o o₁ a b : List ℕ} {at₀ n₀ at m n r : ℕ}
    → Left o₀ at₀ bs₀ n₀ o at (a ++ b) (m + n) → Put o at a m o₁ r → Left o₀ at₀ bs₀ n₀ o₁ r b n
left_step {o₀} {bs₀} {o} {o₁} {a} {b} {at₀} {n₀} {at} {m} {n} {r} l p =
    let e : r ≡ at + length a = omega (arith, p.next, p.size) in
    record {
      next = omega (arith, l.next, p.next);
      kept = rw p.all (splice-length o at a ∙ l.kept);
      all = rw (p.all, e) (splice-append o at a b ∙ l.all);
    }

pub left_end : {o₀ bs₀ o : List ℕ} {at₀ n₀ at : ℕ} → length bs₀ ≡ n₀ → Left o₀ at₀ bs₀ n₀ o at [] 0 → Put o₀ at₀ bs₀ n₀ o at
left_end e l = record { next = omega (arith, l.next); size = e; all = l.all }

-- the same where what is left is said in other words: a turn, the last write, and nothing left
module _ {o₀ bs₀ o bs : List ℕ} {at₀ n₀ at n : ℕ} (l : Left o₀ at₀ bs₀ n₀ o at bs n) where
  pub left-turn : {o₁ a b : List ℕ} {r m k : ℕ} → (bs ≡ a ++ b) × (n ≡ m + k) → Put o at a m o₁ r → Left o₀ at₀ bs₀ n₀ o₁ r b k
  left-turn e p = left_step (rw (e.0, e.1) at l) p

  pub left-last : {o₁ a : List ℕ} {r m : ℕ} → length bs₀ ≡ n₀ → (bs ≡ a) × (n ≡ m) → Put o at a m o₁ r → Put o₀ at₀ bs₀ n₀ o₁ r
  left-last {o₁} {a} {r} {m} z e p =
      record { next = omega (arith, l.next, p.next, e.1); size = z; all = p.all ∙ ap (splice o at) (sym e.0) ∙ l.all }

  pub left-none : length bs₀ ≡ n₀ → (bs ≡ []) × (n ≡ 0) → Put o₀ at₀ bs₀ n₀ o at
  left-none z e = left_end z (rw (e.0, e.1) at l)

-- ---- a part that is lent, and octets put before others

-- octets put into the part of o from k on, with the rest around it
pub splice-lend : (o : List ℕ) (k at : ℕ) (bs : List ℕ) → take k o ++ splice (drop k o) at bs ≡ splice o (k + at) bs
splice-lend o k at [] = take-append-drop k o
splice-lend o k at (b ∷ bs) =
    let h : k ≤ k + at = omega arith in
    let e : k + at + 1 ≡ k + (at + 1) = omega arith in
    rw (← drop-set-add k o at b, ← take-set-le k o (k + at) b h, e) (splice-lend (set o (k + at) b) k (at + 1) bs)

-- a store before the place of a splice
pub set-splice : (o : List ℕ) (at i b : ℕ) (bs : List ℕ) → i < at → set (splice o at bs) i b ≡ splice (set o i b) at bs
set-splice o at i b [] h = refl
set-splice o at i b (x ∷ bs) h =
    let k : i < at + 1 = omega arith in
    let n : at ≢ i = λ e. omega arith in
    rw (set-splice (set o at x) (at + 1) i b bs k, set_comm o at i x b n)

-- what stands first is put last
pub splice-before : (o : List ℕ) (at : ℕ) (a b : List ℕ) → splice (splice o (at + length a) b) at a ≡ splice o at (a ++ b)
splice-before o at [] b = rw add-zero
splice-before o at (x ∷ a) b =
    let h : at < at + suc (length a) = omega arith in
    let e : at + suc (length a) ≡ at + 1 + length a = omega arith in
    rw (set-splice o (at + suc (length a)) at x b h, e) (splice-before (set o at x) (at + 1) a b)

-- the library's run of stores
pub splice-sets : (o : List ℕ) (at : ℕ) (bs : List ℕ) → splice o at bs ≡ sets o at bs
splice-sets o at [] = refl
splice-sets o at (b ∷ bs) = rw add-one (splice-sets (set o at b) (suc at) bs)

-- what a splice is, said by its parts
pub splice-is : (o : List ℕ) (at : ℕ) (bs : List ℕ) → at + length bs ≤ length o → splice o at bs ≡ take at o ++ bs ++ drop (at + length bs) o
splice-is o at bs h = splice-sets o at bs ∙ sets-eq bs o at h

-- a part that is written over, whole
pub over-part : (o w : List ℕ) (at k n : ℕ) → length w ≡ n → at + n ≤ length o → k ≡ n → put_mid at k o w ≡ splice o at w
over-part o w at k n l h e =
    let d : at + length w ≡ at + k = omega arith in
    sym (splice-is o at w (omega arith) ∙ append_assoc (take at o) w (drop (at + length w) o)
    ∙ ap (λ (r : List ℕ). take at o ++ (w ++ r)) (ap (λ (j : ℕ). drop j o) d ∙ sym (drop-drop k at o)))

-- nothing is written
pub put-none : (o : List ℕ) (at : ℕ) → Put o at [] 0 o at
put-none o at = record { next = omega arith; size = refl; all = refl }
