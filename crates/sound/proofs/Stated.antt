-- What the rules on stated lengths leave through, of messages from either form.
use Prim.Native.Nat.{ℕ, ◌+◌, ◌<◌, ◌≤◌}
use mathlib.Core.Path.{◌≡◌, refl, sym, subst}
use mathlib.Core.Bool.{Bool, true, false, cond, not}
use mathlib.Core.List.{List, [], ◌∷◌, map}
use native.Mathlib.Omega.{arith}
use borrow.Author.Tests.{lt-ltb}
use lib.Dec.{leb, eqb}
use lib.ListN.{length}
use Rattle.octets.specs.Ascii.{ascii}
use Rattle.octets.specs.Limits.{lines_most, stated_most}
use Rattle.octets.specs.Refusals.{bad_length, too_large}
use Rattle.octets.specs.Text.{lower_of, same_text}
use Rattle.numbers.specs.Digits.{num_of}
use Rattle.script.specs.Do.{Judged, good, wrong}
use Rattle.messages.specs.Message.{FieldRead}
use Rattle.messages.specs.Control.{is_bodyless, ends_at_head}
use Rattle.messages.specs.Names.{line_kind, same_kind, lines_of, is_end_to_end, end_to_end, connection_values, kept}
use Rattle.messages.proofs.Unnamed.{unnamed-few}
use Rattle.messages.specs.Told.{is_yes}
use Rattle.messages.specs.Rules.{framing_from, framing_of, binary_framing_of, nothing_stated, length_alone, bodyless_rule, length_in}
use Rattle.messages.specs.Notes.{is_clashing}
use Rattle.messages.specs.Meaning.{Informational, response, Meaning}
use Rattle.messages.specs.Valid.{valid_body, valid_stated}
use Rattle.messages.specs.declared.Body.{Body}
use Rattle.messages.specs.declared.Body.TheVariants.{Sized}
use Rattle.messages.specs.declared.Framing.{Framing}
use Rattle.messages.specs.declared.Framing.TheVariants.{Unstated, Stated, Chunked, Clashing}
use Rattle.messages.specs.declared.Kind.{Kind}
use Rattle.messages.specs.declared.Kind.TheVariants as kind
use Rattle.messages.specs.declared.Told.{Told}
use Rattle.sound.proofs.Rules.{nothing-stated}

-- ---- the line of a stated length is not kept

lengths-beside : (host : Bool) (fs : List FieldRead) → length (end_to_end host fs) + length (lines_of kind.ContentLength fs) ≤ length fs
unfolding end_to_end lines_of same_kind
lengths-beside host [] = omega arith
lengths-beside host (f ∷ fs) = go (line_kind f) (lengths-beside host fs)
  where
    one : (b : Bool) → length (end_to_end host fs) + length (lines_of kind.ContentLength fs) ≤ length fs
        → length (cond b (f ∷ end_to_end host fs) (end_to_end host fs)) + length (lines_of kind.ContentLength fs) ≤ length (f ∷ fs)
    one true h = omega arith
    one false h = omega arith

    go : (k : Kind) → length (end_to_end host fs) + length (lines_of kind.ContentLength fs) ≤ length fs
        → length (cond (is_end_to_end host k) (f ∷ end_to_end host fs) (end_to_end host fs))
        + length (cond (same_kind k kind.ContentLength) (f ∷ lines_of kind.ContentLength fs) (lines_of kind.ContentLength fs)) ≤ length (f ∷ fs)
    go kind.Ordinary h = omega arith
    go kind.HopByHop h = omega arith
    go kind.Host h = one host h
    go kind.ContentLength h = omega arith
    go kind.TransferEncoding h = omega arith
    go kind.Connection h = omega arith

pub lengths-dropped : (host : Bool) (fs : List FieldRead) → length (kept host fs) + length (lines_of kind.ContentLength fs) ≤ length fs
unfolding kept
lengths-dropped host fs = omega (arith, unnamed-few (connection_values fs) (end_to_end host fs), lengths-beside host fs)

from-line : (fs cs : List FieldRead) (n p : ℕ) → framing_from fs cs ≡ Stated n p → 1 ≤ length fs
unfolding framing_from
from-line [] [] n p e = let z : ◌≡◌ {A = ℕ} 0 1 = cc in absurd (omega arith)
from-line [] (c ∷ []) n p e = go (same_text (map lower_of c.value.text) (ascii "chunked")) e
  where
    go : (b : Bool) → cond b Chunked Clashing ≡ Stated n p → 1 ≤ 0
    go true g = let z : ◌≡◌ {A = ℕ} 0 1 = cc in absurd (omega arith)
    go false g = let z : ◌≡◌ {A = ℕ} 0 1 = cc in absurd (omega arith)
from-line [] (c ∷ d ∷ cs) n p e = let z : ◌≡◌ {A = ℕ} 0 1 = cc in absurd (omega arith)
from-line (f ∷ fs) cs n p e = omega arith

-- the lines that state a length are more than those that are kept of them
module _ (host : Bool) (fs : List FieldRead) (few : length fs ≤ lines_most) (n p : ℕ) where
  pub stated-few : framing_of fs ≡ Stated n p → length (kept host fs) < lines_most
  unfolding framing_of
  stated-few e = omega (arith, few, lengths-dropped host fs, from-line (lines_of kind.ContentLength fs) (lines_of kind.TransferEncoding fs) n p e)

  pub stated-few-binary : binary_framing_of fs ≡ Stated n p → length (kept host fs) < lines_most
  unfolding binary_framing_of
  stated-few-binary e = omega (arith, few, lengths-dropped host fs, from-line (lines_of kind.ContentLength fs) [] n p e)

-- ---- responses that end at their head

-- a head that such a response may have
pub record Bodyless (n : ℕ) (f : Framing) (b : Body) : Type 0 where
  pub empty : b ≡ Sized 0
  pub once : is_clashing f ≡ false
  pub none : eqb n 204 ≡ true → f ≡ Unstated
  -- what it states is valid of a response without a body that keeps fewer fields than there may be
  pub valid : (hs : List Informational) (w : Meaning) → w.control ≡ response hs n → valid_body false w.content w.trailers ≡ true
      → ((k p : ℕ) → f ≡ Stated k p → length w.headers < lines_most) → valid_stated (length_in f) w ≡ true

unstated-bodyless : (n : ℕ) → Bodyless n Unstated (Sized 0)
unfolding valid_stated
unstated-bodyless n = record { empty = refl; once = refl; none = λ e. refl; valid = λ hs w c v few. refl }

no-204 : (n : ℕ) (f : Framing) → eqb n 204 ≡ false → eqb n 204 ≡ true → f ≡ Unstated
no-204 n f q r = let z : ◌≡◌ {A = ℕ} 0 1 = cc in absurd (omega arith)

alone-bodyless : (t : Told) (n end : ℕ) (f : Framing) (b : Body) → eqb n 204 ≡ false → length_alone t end f ≡ good b → Bodyless n f b
unfolding length_alone valid_stated
alone-bodyless t n end Unstated b q e = let z : Sized 0 ≡ b = cc in subst (Bodyless n Unstated) z (unstated-bodyless n)
alone-bodyless t n end (Stated k p) b q e = go (leb k stated_most) refl e
  where
    go : (x : Bool) → leb k stated_most ≡ x → cond x (good (Sized 0)) (wrong too_large p) ≡ good b → Bodyless n (Stated k p) b
    go true l g =
        let z : Sized 0 ≡ b = cc in
        record {
          empty = sym z;
          once = refl;
          none = no-204 n (Stated k p) q;
          valid = λ hs w c v few. rw (c, q, l, v, lt-ltb (length w.headers) lines_most (few k p refl));
        }
    go false l g = let z : ◌≡◌ {A = ℕ} 0 1 = cc in absurd (omega arith)
alone-bodyless t n end Chunked b q e = go (is_yes t.head) e
  where
    go : (x : Bool) → cond x (good (Sized 0)) (wrong bad_length end) ≡ good b → Bodyless n Chunked b
    go true g =
        let z : Sized 0 ≡ b = cc in
        record { empty = sym z; once = refl; none = no-204 n Chunked q; valid = λ hs w c v few. refl }
    go false g = let z : ◌≡◌ {A = ℕ} 0 1 = cc in absurd (omega arith)
alone-bodyless t n end Clashing b q e = let z : ◌≡◌ {A = ℕ} 0 1 = cc in absurd (omega arith)

pub bodyless : (t : Told) (n end : ℕ) (f : Framing) (b : Body) → bodyless_rule t n end f ≡ good b → Bodyless n f b
unfolding bodyless_rule
bodyless t n end f b e = go (eqb n 204) refl e
  where
    go : (x : Bool) → eqb n 204 ≡ x → cond x (nothing_stated end f) (length_alone t end f) ≡ good b → Bodyless n f b
    go true q g = let h = nothing-stated end f b g in rw (h.0, h.1) (unstated-bodyless n)
    go false q g = alone-bodyless t n end f b q g

-- a final response that may have content has another status than 204 and 304
module _ (t : Told) (n : ℕ) (o : ends_at_head t n ≡ false) where
  pub content-status : is_bodyless n ≡ false
  unfolding ends_at_head
  content-status = go (is_bodyless n) refl o
    where
      go : (b : Bool) → is_bodyless n ≡ b → cond b true (is_yes t.head) ≡ false → is_bodyless n ≡ false
      go true q e = let z : ◌≡◌ {A = ℕ} 0 1 = cc in absurd (omega arith)
      go false q e = q

  pub content-not-204 : (f : Framing) → eqb n 204 ≡ true → f ≡ Unstated
  unfolding is_bodyless
  content-not-204 f e = let z : true ≡ false = rw e at content-status in let y : ◌≡◌ {A = ℕ} 0 1 = cc in absurd (omega arith)

-- a message without a stated length
pub none-stated : (w : Meaning) → valid_stated (length_in Unstated) w ≡ true
unfolding valid_stated
none-stated w = refl
