-- What is printed of what was read.
-- Assumes nothing.
use Prim.Native.Nat.{ℕ, ◌+◌, ◌≤◌, ◌<◌}
use mathlib.Core.Path.{◌≡◌, refl, sym, ap, ◌∙◌, subst}
use mathlib.Core.Bool.{Bool, true, false, cond}
use mathlib.Core.Logic.{◌⊎◌, inl, inr}
use mathlib.Core.List.{List, ◌++◌, append-nil}
use native.Mathlib.Omega.{arith}
use borrow.Author.Tests.{lt-leb, leb-true}
use lib.Dec.{leb}
use lib.ListN.{length, length-append, take, drop}
use lib.Seq.{length-take-le, take-length, take_at}
use Rattle.std.proofs.Common.{Option, None, Some, IfSome, Ok, Err}
use Rattle.std.specs.Io.KnownBytes.{Appends, Consumes, IsAtEnd}
use Rattle.octets.specs.Limits.{listing_most}
use Rattle.octets.specs.Refusals.{no_room, refused_at}
use Rattle.octets.proofs.Kit.{split}
use Rattle.output.specs.Splice.{splice}
use Rattle.output.specs.Reply.{writes, written_of, lent_after}
use Rattle.output.proofs.Laws.{splice-is}
use Rattle.listing.specs.Listing.{listing_of}
use Rattle.lister.specs.Printed.{printed_of, buffer_size, printed}

-- ---- one octet more than a stream may have decides the listing, whatever comes behind it

listing-more : (s rest : List ℕ) → listing_most < length s → listing_of (s ++ rest) ≡ listing_of s
unfolding listing_of
listing-more s rest h =
    let k : listing_most < length (s ++ rest) = rw (length-append s rest) (omega (arith, h)) in
    rw (lt-leb _ _ h, lt-leb _ _ k)

-- what a reader gave is all that it has, or too large
pub read-printed : (a b : Option (List ℕ)) (s : List ℕ) (P : List ℕ → Type 0) → Consumes a b s → (length s < listing_most + 1 → IsAtEnd b) → P (printed s)
    → IfSome a (λ x. P (printed x))
read-printed None b s P took end h = tt
read-printed (Some x) None s P took end h = absurd took
read-printed (Some x) (Some y) s P took end h = on (split (length s) (listing_most + 1))
  where
    shown : List ℕ → List ℕ
    shown l = take (printed_of (written_of (writes l) buffer_size)) l

    on : (length s < listing_most + 1) ⊎ (listing_most + 1 ≤ length s) → P (printed x)
    on (inl k) = subst (λ t. P (printed t)) (sym (took ∙ ap (λ t. s ++ t) (end k) ∙ append-nil s)) h
    on (inr k) = subst (λ l. P (shown l)) (sym (ap listing_of took ∙ listing-more s y (omega (arith, k)))) h

-- ---- what is printed of the lent octets

pub lent-printed : (bs o : List ℕ) → take (printed_of (written_of (writes bs) (length o))) (lent_after (writes bs) o) ≡ take (printed_of (written_of (writes bs) (length o))) bs
unfolding written_of lent_after
lent-printed bs o = on (leb (length bs) (length o)) refl
  where
    on : (b : Bool) → leb (length bs) (length o) ≡ b
        → take (printed_of (cond b (Ok (length bs)) (Err (refused_at no_room 0)))) (cond b (splice o 0 bs) o) ≡ take (printed_of (cond b (Ok (length bs)) (Err (refused_at no_room 0)))) bs
    on true e =
        let i = splice-is o 0 bs (omega (arith, leb-true (length bs) (length o) e)) in
        ap (take (length bs)) i ∙ take_at bs (drop (0 + length bs) o) (length bs) refl ∙ sym (take-length bs)
    on false e = refl

-- ---- the whole: read as far as the buffer goes, listed, and written

module _ (xs o : List ℕ) (n : ℕ) where
  pub go-prints : (a b w w' : Option (List ℕ)) (o' : List ℕ) (k : ℕ) → n ≤ length xs → length xs ≡ listing_most + 1 → length o ≡ buffer_size
      → Consumes a b (take n xs) → (n < length xs → IsAtEnd b)
      → k ≡ printed_of (written_of (writes (listing_of (take n xs))) (length o)) → o' ≡ lent_after (writes (listing_of (take n xs))) o
      → Appends w w' (take k o') → IfSome a (λ s. Appends w w' (printed s))
  go-prints a b w w' o' k within size room took end count after written =
      let l = length-take-le n xs within in
      let e : take k o' ≡ printed (take n xs) =
      ap (λ i. take i o') count ∙ ap (take _) after ∙ lent-printed (listing_of (take n xs)) o
      ∙ ap (λ i. take (printed_of (written_of (writes (listing_of (take n xs))) i)) (listing_of (take n xs))) room in
      read-printed a b (take n xs) (Appends w w') took (λ h. end (omega (arith, h, l, size))) (subst (Appends w w') e written)
