-- What stands at a place, from the tests of the code.
use Prim.Native.Nat.{ℕ, ◌+◌, ◌*◌, ◌-◌, ◌≤◌, ◌<◌}
use mathlib.Core.Path.{◌≡◌, sym, ◌∙◌}
use mathlib.Core.Bool.{true, false}
use mathlib.Core.List.{List}
use native.Mathlib.Omega.{arith}
use native.Mathlib.Nat.{add-zero}
use borrow.Author.Tests.{le-leb, lt-leb, le-ltb, lt-ltb, eq-eqb, ne_eqb}
use lib.Dec.{leb, ltb}
use lib.ListN.{length, get_or, take, drop, length-drop, drop_of_length-le}
use lib.Seq.{get_or-drop, drop-drop}
use Rattle.octets.specs.Limits.{binary_most}
use Rattle.octets.specs.Refusals.{too_large, cut_off, bad_entry}
use Rattle.octets.specs.Text.{is_empty}
use Rattle.bundle.specs.Bundle.{word_of, flock_of, kind_of, length_of, is_flock, message_verdict, judged, text_of, headed, next_at}
use Rattle.bundle.specs.declared.Next.{Next}
use Rattle.bundle.specs.declared.Next.TheVariants as next

pub flock-none : (f : ℕ) → f < 1 → false ≡ is_flock f
flock-none f h = rw (lt-leb 1 f h)

pub flock-some : (f : ℕ) → 1 ≤ f → leb f 127 ≡ is_flock f
flock-some f h = rw (le-leb 1 f h)

pub word_at : (s : List ℕ) (at : ℕ) → ((get_or s at 0 * 256 + get_or s (at + 1) 0) * 256 + get_or s (at + 2) 0) * 256 + get_or s (at + 3) 0 ≡ word_of (drop at s)
unfolding word_of
word_at s at = rw (get_or-drop at s 0 0, get_or-drop at s 1 0, get_or-drop at s 2 0, get_or-drop at s 3 0, add-zero at)

-- the octets that are lent as the message's
pub lent-text : (s : List ℕ) (at w k : ℕ) {r : ℕ} → r ≡ message_verdict k (take (at + 4 + length_of w - (at + 4)) (drop (at + 4) s))
    → r ≡ message_verdict k (text_of (drop at s) w)
lent-text s at w k e =
    let n : at + 4 + length_of w - (at + 4) ≡ length_of w = omega arith in
    e ∙ rw (n, ← (drop-drop 4 at s))

module _ (s : List ℕ) (w : ℕ) where
  pub head-flock : is_flock (flock_of w) ≡ false → next.Stop bad_entry ≡ headed s w
  unfolding headed
  head-flock e = rw e

  module _ (f : is_flock (flock_of w) ≡ true) where
    pub head-kind : 2 ≤ kind_of w → next.Stop bad_entry ≡ headed s w
    unfolding headed
    head-kind k = rw (f, le-ltb (kind_of w) 2 k)

    module _ (k : kind_of w < 2) where
      pub head-long : binary_most < length_of w → next.Stop too_large ≡ headed s w
      unfolding headed
      head-long l = rw (f, lt-ltb (kind_of w) 2 k, lt-leb (length_of w) binary_most l)

      module _ (l : length_of w ≤ binary_most) where
        pub head-cut : length s < 4 + length_of w → next.Stop cut_off ≡ headed s w
        unfolding headed
        head-cut c = rw (f, lt-ltb (kind_of w) 2 k, le-leb (length_of w) binary_most l, lt-leb (4 + length_of w) (length s) c)

        module _ (c : 4 + length_of w ≤ length s) where
          by-message : headed s w ≡ judged w (message_verdict (kind_of w) (text_of s w))
          unfolding headed
          by-message = rw (f, lt-ltb (kind_of w) 2 k, le-leb (length_of w) binary_most l, le-leb (4 + length_of w) (length s) c)

          pub head-good : message_verdict (kind_of w) (text_of s w) ≡ 0 → next.Entry w ≡ headed s w
          head-good v = sym (by-message ∙ rw v)

          pub head-bad : (n : ℕ) → n ≡ message_verdict (kind_of w) (text_of s w) → (n ≡ 0 → ⊥) → next.Stop n ≡ headed s w
          head-bad n v z = sym (by-message ∙ rw (← v, ne_eqb n 0 z))

module _ (s : List ℕ) (at left : ℕ) where
  pub next-end : length s ≤ at → next.End ≡ next_at left (drop at s)
  unfolding next_at is_empty
  next-end h = rw (drop_of_length-le s h)

  module _ (h : at < length s) where
    some : is_empty (drop at s) ≡ false
    unfolding is_empty
    some = ne_eqb (length (drop at s)) 0 (λ e. omega (arith, length-drop at s))

    pub next-cut : length s - at < 4 → next.Stop cut_off ≡ next_at left (drop at s)
    unfolding next_at
    next-cut c = let l : length (drop at s) < 4 = rw (length-drop at s) c in rw (some, lt-ltb (length (drop at s)) 4 l)

    module _ (c : 4 ≤ length s - at) where
      whole : ltb (length (drop at s)) 4 ≡ false
      whole = le-ltb (length (drop at s)) 4 (rw (length-drop at s) c)

      pub next-full : left ≡ 0 → next.Stop too_large ≡ next_at left (drop at s)
      unfolding next_at
      next-full e = rw (some, whole, eq-eqb left 0 e)

      pub next-headed : (left ≡ 0 → ⊥) → {w : ℕ} {r : Next} → w ≡ word_of (drop at s) → r ≡ headed (drop at s) w → r ≡ next_at left (drop at s)
      unfolding next_at
      next-headed z ew er = rw (some, whole, ne_eqb left 0 z, ← ew) er
