-- The readers' steps at the index i of a part s whose first octet is at the place a, as code takes them.
use Prim.Native.Nat.{ℕ, zero, suc, ◌+◌, ◌-◌, ◌*◌, ◌<◌, ◌≤◌}
use mathlib.Core.Path.{◌≡◌, refl}
use mathlib.Core.List.{List, [], ◌∷◌}
use native.Mathlib.Omega.{arith}
use borrow.Author.Tests.{lt-ltb, le-ltb}
use lib.ListN.{length, take, drop, length-drop}
use lib.Seq.{drop-drop}
use Rattle.std.proofs.Common.{Option, Some, None}
use Rattle.numbers.specs.Integer.{integer_of, read_int, read_more}
use Rattle.numbers.specs.declared.Integer.{Integer}
use Rattle.numbers.proofs.IntegerLaws.{int-within}
use Rattle.script.specs.Do.{piece}
use Rattle.binary.specs.Reader.{got, no, cursor, integer, string}

-- ---- an integer further on

-- an integer's answer with its place moved on
abbrev moved : ℕ → Option Integer → Option Integer
moved a (Some i) = Some (integer_of i.value (a + i.next) i.long)
moved a None = None

more-moved : (w n v a at : ℕ) (s : List ℕ) → read_more w n v (a + at) s ≡ moved a (read_more w n v at s)
unfolding read_more
more-moved w zero v a at s = refl
more-moved w (suc n) v a at [] = refl
more-moved w (suc n) v a at (b ∷ s) =
    let e : a + at + 1 ≡ a + (at + 1) = omega arith in
    rw e (more-moved w n (v * 256 + b) a (at + 1) s)

int-moved : (a at : ℕ) (s : List ℕ) → read_int (a + at) s ≡ moved a (read_int at s)
unfolding read_int
int-moved a at [] = refl
int-moved a at (b ∷ s) =
    let e : a + at + 1 ≡ a + (at + 1) = omega arith in
    rw e (more-moved _ _ _ a (at + 1) s)

-- ---- the steps

module _ (a : ℕ) (s : List ℕ) (i c k p : ℕ) where
  pub integer-cut : read_int i (drop i s) ≡ None → integer k p (cursor (a + i) c) (drop i s) ≡ no k p
  unfolding integer
  integer-cut e = rw (int-moved a i (drop i s), e)

  pub integer-in : {v next long : ℕ} → read_int i (drop i s) ≡ Some (integer_of v next long) → integer k p (cursor (a + i) c) (drop i s) ≡ got v (cursor (a + next) (c + long)) (drop next s)
  unfolding integer
  integer-in {v} {next} e =
      let w = int-within s i e in
      let z : a + next - (a + i) ≡ next - i = omega arith in
      let y : i + (next - i) ≡ next = omega (arith, w) in
      rw (int-moved a i (drop i s), e, z, drop-drop (next - i) i s, y)

  pub octets-cut : (n : ℕ) → length s - i < n → string n k p (cursor (a + i) c) (drop i s) ≡ no k p
  unfolding string
  octets-cut n h = rw (lt-ltb (length (drop i s)) n (omega (arith, length-drop i s)))

  pub octets-in : (n : ℕ) → n ≤ length s - i → string n k p (cursor (a + i) c) (drop i s) ≡ got (piece (a + i) (take n (drop i s))) (cursor (a + (i + n)) c) (drop (i + n) s)
  unfolding string
  octets-in n h =
      let z : a + i + n ≡ a + (i + n) = omega arith in
      rw (le-ltb (length (drop i s)) n (omega (arith, length-drop i s)), z, drop-drop n i s)
