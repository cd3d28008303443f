-- Texts in a room of which other places were changed.
use Prim.Native.Nat.{ℕ, zero, suc, ◌+◌, ◌-◌, ◌<◌, ◌≤◌}
use mathlib.Core.Path.{◌≡◌, refl, sym, ap, ◌∙◌}
use mathlib.Core.List.{List, [], ◌∷◌, ◌++◌, map, append_assoc}
use native.Mathlib.Omega.{arith}
use lib.ListN.{length, take, drop, set, length-append, length-drop, length-set, length-map, length-take}
use lib.Seq.{drop-set-lt, take-set-le, take-take, length-take-le, take-add, drop-drop, take_at, drop_at}
use Rattle.octets.proofs.Texts.{drop-take}
use Rattle.octets.specs.Text.{lower_of}
use Rattle.messages.specs.declared.Kind.{Kind}
use Rattle.messages.specs.declared.Kind.TheVariants as kind
use Rattle.step_lines.specs.Entries.{kept_text}
use Rattle.output.specs.Splice.{splice}
use Rattle.output.proofs.Laws.{splice-length, splice-append, splice-is}
use Rattle.http1_lines.specs.declared.Target.{Target}
use Rattle.steps.specs.Heads.{target_room}

-- behind what was put
pub drop-splice : (o : List ℕ) (at : ℕ) (bs : List ℕ) (k : ℕ) → at + length bs ≤ k → drop k (splice o at bs) ≡ drop k o
drop-splice o at [] k h = refl
drop-splice o at (b ∷ bs) k h = drop-splice (set o at b) (at + 1) bs k (omega arith) ∙ drop-set-lt k o at b (omega arith)

-- before it
pub take-splice : (o : List ℕ) (at : ℕ) (bs : List ℕ) (k : ℕ) → k ≤ at → take k (splice o at bs) ≡ take k o
take-splice o at [] k h = refl
take-splice o at (b ∷ bs) k h = take-splice (set o at b) (at + 1) bs k (omega arith) ∙ take-set-le k o at b h

-- a part of a room whose front did not change
pub part-front : (o o' : List ℕ) (e k n : ℕ) → take e o' ≡ take e o → k + n ≤ e → take n (drop k o') ≡ take n (drop k o)
part-front o o' e k n q h = sym (of o') ∙ ap (λ (l : List ℕ). take n (drop k l)) q ∙ of o
  where
    of : (l : List ℕ) → take n (drop k (take e l)) ≡ take n (drop k l)
    of l = ap (take n) (drop-take k e l) ∙ take-take n (e - k) (drop k l) (omega arith)

part-long : (o : List ℕ) (k n : ℕ) → k + n ≤ length o → length (take n (drop k o)) ≡ n
part-long o k n h = length-take-le n (drop k o) (omega (arith, length-drop k o))

-- authority and path of a target, moved one after the other
pub target-moved : (o : List ℕ) {o₁ o₂ : List ℕ} (at : ℕ) (x : Target) → x.hostlen ≤ x.start → at + 1 + (x.host + x.hostlen) ≤ length o
    → o₁ ≡ splice o at (take x.hostlen (drop (at + 1 + x.host) o)) → o₂ ≡ splice o₁ (at + x.hostlen) (take x.len (drop (at + 1 + x.start) o₁)) → o₂ ≡ target_room o at x
unfolding target_room
target-moved o {o₁} {o₂} at x h k e f =
    let w = take x.hostlen (drop (at + 1 + x.host) o) in
    let l : length w ≡ x.hostlen = part-long o (at + 1 + x.host) x.hostlen (omega arith) in
    let d : drop (at + 1 + x.start) o₁ ≡ drop (at + 1 + x.start) o = ap (drop (at + 1 + x.start)) e ∙ drop-splice o at w (at + 1 + x.start) (omega arith) in
    f ∙ ap (λ (v : List ℕ). splice o₁ (at + x.hostlen) (take x.len v)) d
    ∙ ap (λ (v : List ℕ). splice v (at + x.hostlen) (take x.len (drop (at + 1 + x.start) o))) e
    ∙ ap (λ (k : ℕ). splice (splice o at w) (at + k) (take x.len (drop (at + 1 + x.start) o))) (sym l)
    ∙ splice-append o at w (take x.len (drop (at + 1 + x.start) o))

-- what is kept of a line is no longer than the line
pub kept-short : (k : Kind) (n v : List ℕ) (m c l : ℕ) → length n ≤ m → length v ≤ l → m < c → length (kept_text k n v) ≤ c + l + 1
kept-short kind.Ordinary n v m c l h g e = omega (arith, length-append (map lower_of n) (10 ∷ []), length-map n lower_of)
kept-short kind.HopByHop n v m c l h g e = omega arith
kept-short kind.Host n v m c l h g e = omega (arith, length-append v (10 ∷ []))
kept-short kind.ContentLength n v m c l h g e = omega arith
kept-short kind.TransferEncoding n v m c l h g e = omega arith
kept-short kind.Connection n v m c l h g e = omega (arith, length-append v (10 ∷ []))

pub kept-within : (k : Kind) (o : List ℕ) (m c l from start : ℕ) → m < c → length (kept_text k (take m (drop from o)) (take l (drop start o))) ≤ c + l + 1
kept-within k o m c l from start e =
    kept-short k (take m (drop from o)) (take l (drop start o)) m c l (omega (arith, length-take m (drop from o))) (omega (arith, length-take l (drop start o))) e

-- what was put, found again
module _ (o : List ℕ) (at : ℕ) (v w : List ℕ) (h : at + (length v + length w) ≤ length o) where
  pub put_is : drop at (splice o at (v ++ w)) ≡ v ++ (w ++ drop (at + length (v ++ w)) o)
  put_is =
      let l = length-append v w in
      ap (drop at) (splice-is o at (v ++ w) (omega arith) ∙ append_assoc (take at o) (v ++ w) (drop (at + length (v ++ w)) o))
      ∙ drop_at (take at o) ((v ++ w) ++ drop (at + length (v ++ w)) o) at (length-take-le at o (omega arith)) ∙ append_assoc v w (drop (at + length (v ++ w)) o)

  pub put_first : (n : ℕ) → n ≡ length v → take n (drop at (splice o at (v ++ w))) ≡ v
  put_first n e = ap (take n) put_is ∙ take_at v (w ++ drop (at + length (v ++ w)) o) n (sym e)

  pub put_second : (n k : ℕ) → n ≡ length w → k ≡ at + length v → take n (drop k (splice o at (v ++ w))) ≡ w
  put_second n k e f =
      ap (λ (i : ℕ). take n (drop i (splice o at (v ++ w)))) f ∙ ap (take n) (sym (drop-drop (length v) at (splice o at (v ++ w))) ∙ ap (drop (length v)) put_is
      ∙ drop_at v (w ++ drop (at + length (v ++ w)) o) (length v) refl) ∙ take_at w (drop (at + length (v ++ w)) o) n (sym e)

-- a part of a line that stands in the room
pub line-part-is : (room : List ℕ) (from n k l : ℕ) → k + l ≤ n → take l (drop k (take n (drop from room))) ≡ take l (drop (from + k) room)
line-part-is room from n k l h = ap (take l) (drop-take k n (drop from room)) ∙ take-take l (n - k) (drop k (drop from room)) (omega arith) ∙ ap (take l) (drop-drop k from room)
