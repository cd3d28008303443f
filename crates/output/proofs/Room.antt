-- Laws of writers of all or nothing.
-- Assumes nothing.
use mathlib.Core.Path.{◌≡◌, refl, sym, ◌∙◌}
use mathlib.Core.Bool.{Bool, true, false, cond}
use mathlib.Core.List.{List, [], ◌∷◌, ◌++◌}
use Prim.Native.Nat.{ℕ, ◌+◌, ◌-◌, ◌≤◌, ◌<◌}
use native.Mathlib.Omega.{arith}
use borrow.Author.Tests.{le-leb, lt-leb, leb-true, leb-false}
use lib.Dec.{leb}
use lib.ListN.{length}
use Rattle.output.specs.Splice.{lies_within, Put, PutIf, Puts}
use Rattle.output.proofs.Laws.{splice-length, put_then}

-- ---- the test

pub within-rest : (size at n : ℕ) → at ≤ size → leb n (size - at) ≡ leb (at + n) size
within-rest size at n h = go (leb n (size - at)) refl
  where
    go : (b : Bool) → leb n (size - at) ≡ b → b ≡ leb (at + n) size
    go true e = sym (le-leb (at + n) size (let k : n ≤ size - at = leb-true n (size - at) e in omega arith))
    go false e = sym (lt-leb (at + n) size (let k : size - at < n = leb-false n (size - at) e in omega arith))

pub within-past : (size at n : ℕ) → size < at → false ≡ leb (at + n) size
within-past size at n h = sym (lt-leb (at + n) size (omega arith))

-- what a test that passed says
pub room_by : (size at n : ℕ) {r : Bool} → r ≡ leb (at + n) size → r ≡ true → at + n ≤ size
room_by size at n e t = leb-true (at + n) size (sym e ∙ t)

-- one octet
pub one-fits : (o : List ℕ) (at : ℕ) → at < length o → lies_within o at 1 ≡ true
one-fits o at h = le-leb (at + 1) (length o) (omega arith)

pub one-past : (o : List ℕ) (at : ℕ) → length o ≤ at → lies_within o at 1 ≡ false
one-past o at h = lt-leb (at + 1) (length o) (omega arith)

-- ---- where the test passes, and where not

module _ {may : Bool} {o bs o' : List ℕ} {at n r : ℕ} where
  pub put_if : may ≡ true → Put o at bs n o' r → PutIf may o at bs n o' r
  put_if e p = rw e (record { next = p.next; size = p.size; all = p.all })

  pub put_of : may ≡ true → PutIf may o at bs n o' r → Put o at bs n o' r
  put_of e p = let q = rw e at p in record { next = q.next; size = q.size; all = q.all }

pub put-not : {may : Bool} {o bs : List ℕ} {at n : ℕ} → may ≡ false → length bs ≡ n → PutIf may o at bs n o at
put-not e z = rw e (record { next = refl; size = z; all = refl })

-- nothing to write
pub put-nothing : (may : Bool) {o : List ℕ} (bs : List ℕ) {at n : ℕ} → length bs ≡ n → n ≡ 0 → PutIf may o at bs n o at
put-nothing may (b ∷ bs) e z = absurd (omega (arith, e, z))
put-nothing true [] e z = record { next = omega (arith, z); size = e; all = refl }
put-nothing false [] e z = record { next = refl; size = e; all = refl }

-- ---- given that there is room

module _ {o bs o' : List ℕ} {at n r : ℕ} where
  pub puts : PutIf (lies_within o at n) o at bs n o' r → Puts o at bs n o' r
  puts p h = put_of (le-leb _ _ h) p

  -- a part that lies within its source
  pub puts-part : {within : Bool} → within ≡ true → PutIf (cond within (lies_within o at n) false) o at bs n o' r → Puts o at bs n o' r
  puts-part e p h = put_of (rw e (le-leb _ _ h)) p

pub puts_then : {o o₁ o₂ a b : List ℕ} {at m n r₁ r₂ : ℕ} → Puts o at a m o₁ r₁ → Puts o₁ r₁ b n o₂ r₂ → Puts o at (a ++ b) (m + n) o₂ r₂
puts_then {o} {o₁} {o₂} {a} {b} {at} {m} {n} {r₁} p q h =
    let f = p (omega arith) in
    let e : length o₁ ≡ length o = rw f.all (splice-length o at a) in
    put_then f (q (omega (arith, f.next)))
