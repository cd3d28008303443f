-- The walk, entry by entry: what it says of an entry that stands at a place, and how the loop of the reader goes on.
use Prim.Native.Nat.{ℕ, zero, suc, ◌+◌, ◌*◌, ◌-◌, ◌≤◌, ◌<◌}
use mathlib.Core.Path.{◌≡◌, refl, sym, ap, ◌∙◌}
use mathlib.Core.Bool.{true}
use mathlib.Core.List.{List, [], ◌∷◌}
use native.Mathlib.Omega.{arith}
use borrow.Author.Tests.{leb-true, ltb-true, eqb-true, eqb-false}
use lib.Dec.{leb, ltb, eqb}
use lib.ListN.{length, take, drop, replicate, length-drop}
use lib.Seq.{get_or-take, drop-drop, length-take-le}
use Rattle.octets.specs.Limits.{binary_most}
use Rattle.octets.specs.Refusals.{too_large}
use Rattle.octets.specs.Text.{is_empty}
use Rattle.octets.proofs.Kit.{past, into}
use Rattle.output.specs.Splice.{splice}
use Rattle.output.proofs.Laws.{splice-append, splice-length}
use Rattle.ranges.proofs.ByValue.{zeros-padded}
use Rattle.bundle.specs.Bundle.{word_of, flock_of, kind_of, length_of, is_flock, message_verdict, text_of, headed, next_at, Entry, Walk, ends_at, follows, entry_at, onward, walk_from, walk}
use Rattle.bundle.specs.Answers.{numbers_from, bundle_of, Walked}
use Rattle.bundle.specs.declared.Next.{Next}
use Rattle.bundle.specs.declared.Next.TheVariants as next

-- ---- an entry that stands at the front of s

pub record Stands (left : ℕ) (s : List ℕ) (w : ℕ) : Type 0 where
  pub some : 1 ≤ left
  pub word : w ≡ word_of s
  pub flock : is_flock (flock_of w) ≡ true
  pub kind : kind_of w < 2
  pub small : length_of w ≤ binary_most
  pub whole : 4 + length_of w ≤ length s
  pub good : message_verdict (kind_of w) (text_of s w) ≡ 0

no_end : {w : ℕ} → next.End ≡ next.Entry w → ⊥
no_end e = let z : ◌≡◌ {A = ℕ} 0 1 = cc in omega arith

no_stop : {k w : ℕ} → next.Stop k ≡ next.Entry w → ⊥
no_stop e = let z : ◌≡◌ {A = ℕ} 0 1 = cc in omega arith

same_word : {v w : ℕ} → next.Entry v ≡ next.Entry w → v ≡ w
same_word e = cc

pub stands : (left : ℕ) (s : List ℕ) (w : ℕ) → next.Entry w ≡ next_at left s → Stands left s w
unfolding next_at headed
stands left s w e =
    let a = past no_end (is_empty s) _ (sym e) in
    let b = past no_stop (ltb (length s) 4) _ a.1 in
    let c = past no_stop (eqb left 0) _ b.1 in
    let v = word_of s in
    let f = into no_stop (is_flock (flock_of v)) _ c.1 in
    let k = into no_stop (ltb (kind_of v) 2) _ f.1 in
    let l = into no_stop (leb (length_of v) binary_most) _ k.1 in
    let h = into no_stop (leb (4 + length_of v) (length s)) _ l.1 in
    let j = into no_stop (eqb (message_verdict (kind_of v) (text_of s v)) 0) _ h.1 in
    let q : v ≡ w = same_word j.1 in
    let z : left ≡ 0 → ⊥ = eqb-false left 0 c.0 in
    rw (← q) (record {
      some = omega arith;
      word = refl;
      flock = f.0;
      kind = ltb-true (kind_of v) 2 k.0;
      small = leb-true (length_of v) binary_most l.0;
      whole = leb-true (4 + length_of v) (length s) h.0;
      good = eqb-true (message_verdict (kind_of v) (text_of s v)) 0 j.0;
    })

-- its head and its text
pub word-taken : (s : List ℕ) → word_of (take 4 s) ≡ word_of s
unfolding word_of
word-taken s = rw (get_or-take 4 s 0 0 (omega arith), get_or-take 4 s 1 0 (omega arith), get_or-take 4 s 2 0 (omega arith), get_or-take 4 s 3 0 (omega arith))

pub text-length : (s : List ℕ) (w : ℕ) → 4 + length_of w ≤ length s → length (text_of s w) ≡ length_of w
text-length s w h = length-take-le (length_of w) (drop 4 s) (omega (arith, length-drop 4 s))

-- ---- one step of the walk

pub walk-entry : (left at : ℕ) (s : List ℕ) (w : ℕ) → next.Entry w ≡ next_at left s
    → walk_from left at s ≡ follows (entry_at s w) (walk_from (left - 1) (at + (4 + length_of w)) (drop (4 + length_of w) s))
unfolding walk_from
walk-entry zero at s w e = let h = (stands zero s w e).some in absurd (omega arith)
walk-entry (suc left) at s w e =
    let z : suc left - 1 ≡ left = omega arith in
    ap (λ (x : Next). onward x at s (walk_from left)) (sym e) ∙ rw z

pub walk-stop : (left at : ℕ) (s : List ℕ) (k : ℕ) → next.Stop k ≡ next_at left s → walk_from left at s ≡ ends_at at k
unfolding walk_from
walk-stop zero at s k e = ap (λ (x : Next). onward x at s (λ a r. ends_at a too_large)) (sym e)
walk-stop (suc left) at s k e = ap (λ (x : Next). onward x at s (walk_from left)) (sym e)

pub walk-end : (left at : ℕ) (s : List ℕ) → next.End ≡ next_at left s → walk_from left at s ≡ ends_at at 0
unfolding walk_from
walk-end zero at s e = ap (λ (x : Next). onward x at s (λ a r. ends_at a too_large)) (sym e)
walk-end (suc left) at s e = ap (λ (x : Next). onward x at s (walk_from left)) (sym e)

-- ---- the loop of the reader: behind `count` entries, at the place `at`, o₀ has become o

abbrev pub rest_at : List ℕ → ℕ → ℕ → Walk
rest_at s count at = walk_from (256 - count) at (drop at s)

pub record Walking (s o₀ o : List ℕ) (count at : ℕ) : Type 0 where
  pub few : count ≤ 256
  pub within : at ≤ length s
  pub below : at ≤ count * 65539
  pub kept : length o ≡ length o₀
  pub counted : count + length (rest_at s count at).entries ≡ length (walk s).entries
  pub ended : (rest_at s count at).end ≡ (walk s).end
  pub stopped : (rest_at s count at).stop ≡ (walk s).stop
  pub stored : splice o (count * 3) (numbers_from at (rest_at s count at).entries) ≡ splice o₀ 0 (numbers_from 0 (walk s).entries)

pub walking_start : (s o : List ℕ) → Walking s o o 0 0
unfolding walk
walking_start s o =
    record { few = omega arith; within = omega arith; below = omega arith; kept = refl; counted = omega arith; ended = refl; stopped = refl; stored = refl }

module _ {s o₀ o : List ℕ} {count at : ℕ} (h : Walking s o₀ o count at) where
  walking-off : (k : ℕ) → rest_at s count at ≡ ends_at at k → Walked (walk s) o₀ o count at k
  unfolding numbers_from
  walking-off k q =
      let a = rw q at h.counted in
      let b = rw q at h.ended in
      let c = rw q at h.stopped in
      let d = rw q at h.stored in
      record { counted = omega (arith, a); ended = b; stopped = c; stored = d }

  pub walking-end : next.End ≡ next_at (256 - count) (drop at s) → Walked (walk s) o₀ o count at 0
  walking-end e = walking-off 0 (walk-end (256 - count) at (drop at s) e)

  pub walking-stop : (k : ℕ) → next.Stop k ≡ next_at (256 - count) (drop at s) → Walked (walk s) o₀ o count at k
  walking-stop k e = walking-off k (walk-stop (256 - count) at (drop at s) k e)

  module _ (w : ℕ) (e : next.Entry w ≡ next_at (256 - count) (drop at s)) where
    pub here : Stands (256 - count) (drop at s) w
    here = stands (256 - count) (drop at s) w e

    pub more-come : count < 256
    more-come = omega (arith, here.some)

    pub next-within : at + (4 + length_of w) ≤ length s
    next-within = omega (arith, here.whole, length-drop at s, h.within)

    pub step : rest_at s count at ≡ follows (entry_at (drop at s) w) (rest_at s (count + 1) (at + (4 + length_of w)))
    step =
        let l : 256 - count - 1 ≡ 256 - (count + 1) = omega (arith, more-come) in
        walk-entry (256 - count) at (drop at s) w e ∙ rw (l, drop-drop (4 + length_of w) at s)

    pub walking-next : {o' : List ℕ} → o' ≡ splice o (count * 3) (w ∷ (at + 4) ∷ length_of w ∷ []) → Walking s o₀ o' (count + 1) (at + (4 + length_of w))
    unfolding numbers_from
    walking-next {o'} q =
        let a = rw step at h.counted in
        let b = rw step at h.ended in
        let c = rw step at h.stopped in
        let d = rw (step, text-length (drop at s) w here.whole, word-taken (drop at s), ← here.word) at h.stored in
        let l = w ∷ (at + 4) ∷ length_of w ∷ [] in
        let z : (count + 1) * 3 ≡ count * 3 + length l = omega arith in
        record {
          few = omega (arith, more-come);
          within = next-within;
          below = omega (arith, h.below, here.small);
          kept = rw q (splice-length o (count * 3) l ∙ h.kept);
          counted = omega (arith, a);
          ended = b;
          stopped = c;
          stored = rw (q, z) (splice-append o (count * 3) l (numbers_from (at + (4 + length_of w)) (rest_at s (count + 1) (at + (4 + length_of w))).entries) ∙ d);
        }

-- ---- the walk by value

pub walk-few : (left at : ℕ) (s : List ℕ) → length (walk_from left at s).entries ≤ left
unfolding walk_from
walk-few zero at s = go (next_at zero s) refl
  where
    go : (x : Next) → x ≡ next_at zero s → length (onward x at s (λ a r. ends_at a too_large)).entries ≤ 0
    go (next.Entry w) e = let h = (stands zero s w e).some in absurd (omega arith)
    go next.End e = omega arith
    go (next.Stop k) e = omega arith
walk-few (suc left) at s = go (next_at (suc left) s) (walk-few left)
  where
    go : (x : Next) → ((a : ℕ) (r : List ℕ) → length (walk_from left a r).entries ≤ left) → length (onward x at s (walk_from left)).entries ≤ suc left
    go (next.Entry w) h = let k = h (at + (4 + length_of w)) (drop (4 + length_of w) s) in omega arith
    go next.End h = omega arith
    go (next.Stop k) h = omega arith

pub few-entries : (s : List ℕ) → length (walk s).entries ≤ 256
unfolding walk
few-entries s = walk-few 256 0 s

pub walk-within : (left at : ℕ) (s : List ℕ) → (walk_from left at s).end ≤ at + length s
unfolding walk_from
walk-within zero at s = go (next_at zero s) refl
  where
    go : (x : Next) → x ≡ next_at zero s → (onward x at s (λ a r. ends_at a too_large)).end ≤ at + length s
    go (next.Entry w) e = let h = (stands zero s w e).some in absurd (omega arith)
    go next.End e = omega arith
    go (next.Stop k) e = omega arith
walk-within (suc left) at s = go (next_at (suc left) s) refl (walk-within left)
  where
    go : (x : Next) → x ≡ next_at (suc left) s → ((a : ℕ) (r : List ℕ) → (walk_from left a r).end ≤ a + length r) → (onward x at s (walk_from left)).end ≤ at + length s
    go (next.Entry w) e h =
        let k = h (at + (4 + length_of w)) (drop (4 + length_of w) s) in
        omega (arith, k, (stands (suc left) s w e).whole, length-drop (4 + length_of w) s)
    go next.End e h = omega arith
    go (next.Stop k) e h = omega arith

pub end-within : (s : List ℕ) → (walk s).end ≤ length s
unfolding walk
end-within s = omega (arith, walk-within 256 0 s)

pub numbers-length : (at : ℕ) (es : List Entry) → length (numbers_from at es) ≡ length es * 3
unfolding numbers_from
numbers-length at [] = refl
numbers-length at (e ∷ es) = let h = numbers-length (at + (4 + length e.text)) es in omega arith

pub by_value : (s : List ℕ) {o' : List ℕ} {c e k : ℕ} → Walked (walk s) (replicate 768 0) o' c e k
    → record { count = c; end = e; number = k; numbers = o' } ≡ bundle_of (walk s)
by_value s {o'} h =
    let es = (walk s).entries in
    let f : length (numbers_from 0 es) ≤ 768 = omega (arith, numbers-length 0 es, few-entries s) in
    rw (h.counted, h.ended, h.stopped, zeros-padded 768 (numbers_from 0 es) f h.stored)
