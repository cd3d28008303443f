-- Octets moved down: what the room's front then is.
use Prim.Native.Nat.{ℕ, suc, ◌+◌, ◌-◌, ◌≤◌, ◌<◌}
use mathlib.Core.Path.{◌≡◌, refl, sym, ap, ◌∙◌}
use mathlib.Core.Logic.{◌⊎◌, inl, inr}
use mathlib.Core.List.{List, [], ◌∷◌, ◌++◌, map}
use native.Mathlib.Omega.{arith}
use lib.ListN.{length, set, take, drop, length-append, length-set, length-drop, length-map}
use lib.Seq.{length-take-le, take_at}
use Rattle.octets.specs.Text.{lower_of}
use Rattle.std.specs.Char.{to_ascii_lowercase}
use borrow.Rule.Slice.PartMut.{put_mid}
use Rattle.octets.proofs.Lists.{map-lower}
use Rattle.messages.specs.declared.Kind.{Kind}
use Rattle.messages.specs.declared.Kind.TheVariants as kind
use Rattle.step_lines.specs.Entries.{host_mark, connection_mark, kept_text}
use Rattle.output.specs.Splice.{splice}
use Rattle.output.proofs.Laws.{over-part, splice-length, splice-append, splice-is, splice-before}

part-long : (n from : ℕ) (o : List ℕ) → from + n ≤ length o → length (take n (drop from o)) ≡ n
part-long n from o h = length-take-le n (drop from o) (omega (arith, length-drop from o))

pub name-length : (n from : ℕ) (o : List ℕ) → from + n ≤ length o → n + 1 ≡ length (map lower_of (take n (drop from o)) ++ 10 ∷ [])
name-length n from o h = sym (length-append (map lower_of (take n (drop from o))) (10 ∷ []) ∙ omega (arith, length-map (take n (drop from o)) lower_of, part-long n from o h))

pub value-length : (n from b : ℕ) (o : List ℕ) → from + n ≤ length o → n + 2 ≡ length (b ∷ (take n (drop from o) ++ 10 ∷ []))
value-length n from b o h = omega (arith, length-append (take n (drop from o)) (10 ∷ []), part-long n from o h)

-- octets made lower case where they stand
pub lowered : (o w : List ℕ) (from n k : ℕ) → from + n ≤ length o → k ≡ n → w ≡ map to_ascii_lowercase (take k (drop from o))
    → put_mid from k o w ≡ splice o from (map lower_of (take n (drop from o)))
lowered o w from n k h ek e =
    let b : w ≡ map lower_of (take n (drop from o)) = rw ek at e ∙ map-lower (take n (drop from o)) in
    rw b (over-part o (map lower_of (take n (drop from o))) from k n (length-map (take n (drop from o)) lower_of ∙ part-long n from o h) h ek)

-- ---- a word with one octet behind it, and one before it

pub with-last : (o : List ℕ) (at : ℕ) (w : List ℕ) (b n : ℕ) → length w ≡ n → set (splice o at w) (at + n) b ≡ splice o at (w ++ b ∷ [])
with-last o at w b n e = ap (λ (k : ℕ). set (splice o at w) (at + k) b) (sym e) ∙ splice-append o at w (b ∷ [])

pub with_first : (o : List ℕ) (at : ℕ) (w : List ℕ) (b : ℕ) → set (splice o (at + 1) w) at b ≡ splice o at (b ∷ w)
with_first o at w b = splice-before o at (b ∷ []) w

module _ (o : List ℕ) {o' : List ℕ} (from n : ℕ) where
  pub name-kept : from + n < length o → o' ≡ splice o from (map lower_of (take n (drop from o)))
      → set o' (from + n) 10 ≡ splice o from (map lower_of (take n (drop from o)) ++ 10 ∷ [])
  name-kept h e = rw e (with-last o from (map lower_of (take n (drop from o))) 10 n (length-map (take n (drop from o)) lower_of ∙ part-long n from o (omega arith)))

  pub value-kept : (b start : ℕ) → from < start → start + n < length o → o' ≡ splice o (from + 1) (take n (drop start o))
      → set (set o' from b) (from + 1 + n) 10 ≡ splice o from (b ∷ (take n (drop start o) ++ 10 ∷ []))
  value-kept b start h k e =
      let a : from + 1 + n ≡ from + suc n = omega arith in
      rw (e, with_first o from (take n (drop start o)) b, a)
      (with-last o from (b ∷ take n (drop start o)) 10 (suc n) (ap suc (part-long n start o (omega arith))))

  pub value-inside : (b start : ℕ) → from < start → start + n < length o → o' ≡ splice o (from + 1) (take n (drop start o)) → from + 1 + n < length (set o' from b)
  value-inside b start h k e = omega (arith, length-set o' from b, ap (λ (l : List ℕ). length l) e, splice-length o (from + 1) (take n (drop start o)))

-- a line by its kind
module _ (k : Kind) (o : List ℕ) (from : ℕ) where
  pub kept-none : (n v : List ℕ) → (k ≡ kind.HopByHop) ⊎ ((k ≡ kind.ContentLength) ⊎ (k ≡ kind.TransferEncoding)) → (o ≡ splice o from (kept_text k n v)) × (0 ≡ length (kept_text k n v))
  kept-none n v (inl e) = rw e (refl, refl)
  kept-none n v (inr (inl e)) = rw e (refl, refl)
  kept-none n v (inr (inr e)) = rw e (refl, refl)

  pub kept-name : {o' : List ℕ} (n : ℕ) (v : List ℕ) → k ≡ kind.Ordinary → from + n ≤ length o → o' ≡ splice o from (map lower_of (take n (drop from o)) ++ 10 ∷ [])
      → (o' ≡ splice o from (kept_text k (take n (drop from o)) v)) × (n + 1 ≡ length (kept_text k (take n (drop from o)) v))
  kept-name n v e h q = rw e (q, name-length n from o h)

  module _ {o' : List ℕ} (w : List ℕ) (n start : ℕ) (h : start + n ≤ length o) where
    pub kept-host : k ≡ kind.Host → o' ≡ splice o from (host_mark ∷ (take n (drop start o) ++ 10 ∷ []))
        → (o' ≡ splice o from (kept_text k w (take n (drop start o)))) × (n + 2 ≡ length (kept_text k w (take n (drop start o))))
    kept-host e q = rw e (q, value-length n start host_mark o h)

    pub kept-connection : k ≡ kind.Connection → o' ≡ splice o from (connection_mark ∷ (take n (drop start o) ++ 10 ∷ []))
        → (o' ≡ splice o from (kept_text k w (take n (drop start o)))) × (n + 2 ≡ length (kept_text k w (take n (drop start o))))
    kept-connection e q = rw e (q, value-length n start connection_mark o h)

-- ---- the front of a room into which a text was put

pub front_of : (o : List ℕ) (at : ℕ) (w : List ℕ) → at + length w ≤ length o → take (at + length w) (splice o at w) ≡ take at o ++ w
front_of o at w h =
    let l : length (take at o) ≡ at = length-take-le at o (omega arith) in
    let m : length (take at o ++ w) ≡ at + length w = length-append (take at o) w ∙ omega arith in
    ap (take (at + length w)) (splice-is o at w h)
    ∙ take_at (take at o ++ w) (drop (at + length w) o) (at + length w) m
