-- The loops over the entries of a bundle that was walked, and a flock's list.
use Prim.Native.Nat.{ℕ, zero, suc, ◌+◌, ◌*◌, ◌-◌, ◌≤◌, ◌<◌}
use mathlib.Core.Path.{◌≡◌, refl, sym, ap, ◌∙◌}
use mathlib.Core.Bool.{Bool, true, false, cond}
use mathlib.Core.List.{List, [], ◌∷◌, ◌++◌}
use native.Mathlib.Omega.{arith}
use borrow.Author.Tests.{le-leb, eq-eqb, ne_eqb}
use lib.Dec.{eqb}
use lib.ListN.{length, drop, length-drop, length-append}
use lib.Seq.{drop-drop, take-add}
use Rattle.octets.specs.Refusals.{too_large, bad_entry, refused_at}
use Rattle.output.specs.Splice.{part, lies_within, Put, PutIf, Left}
use Rattle.output.specs.Reply.{writes, Served, Written}
use Rattle.output.proofs.Laws.{elements-take, elements-length, left-start, left_step, left_end}
use Rattle.output.proofs.Room.{put_of}
use Rattle.output.proofs.Serve.{serve-wrong}
use Rattle.bundle.specs.Bundle.{word_of, flock_of, length_of, is_flock, next_at, Entry, entry_octets, entries_octets, ends_at, follows, entry_at, onward, walk_from, walk, pick_if, is_of, of_flock, flock_list}
use Rattle.bundle.specs.Answers.{bundle_of}
use Rattle.bundle.specs.declared.Next.{Next}
use Rattle.bundle.specs.declared.Next.TheVariants as next
use Rattle.bundle.specs.declared.Bundle.{Bundle}
use Rattle.bundle.proofs.Walks.{Stands, stands, word-taken, walk-entry, rest_at}
use Rattle.std.proofs.Common.{Err}

-- ---- where a walk has entries, one stands

pub has-entry : (left at : ℕ) (s : List ℕ) → 0 < length (walk_from left at s).entries → next.Entry (word_of s) ≡ next_at left s
unfolding walk_from
has-entry zero at s = go (next_at zero s) refl
  where
    go : (x : Next) → x ≡ next_at zero s → 0 < length (onward x at s (λ a r. ends_at a too_large)).entries → next.Entry (word_of s) ≡ next_at zero s
    go (next.Entry w) e h = let z = (stands zero s w e).some in absurd (omega arith)
    go next.End e h = absurd (omega arith)
    go (next.Stop k) e h = absurd (omega arith)
has-entry (suc left) at s = go (next_at (suc left) s) refl
  where
    go : (x : Next) → x ≡ next_at (suc left) s → 0 < length (onward x at s (walk_from left)).entries → next.Entry (word_of s) ≡ next_at (suc left) s
    go (next.Entry w) e h = ap (λ (v : ℕ). next.Entry v) (sym (stands (suc left) s w e).word) ∙ e
    go next.End e h = absurd (omega arith)
    go (next.Stop k) e h = absurd (omega arith)

-- its octets, as they stand
pub entry-part : (s : List ℕ) (at w : ℕ) → at + (4 + length_of w) ≤ length s → part s at (4 + length_of w) ≡ entry_octets (entry_at (drop at s) w)
entry-part s at w h = elements-take 0 s at (4 + length_of w) h ∙ take-add 4 (length_of w) (drop at s)

-- ---- a loop over the entries: behind i of them, at the place `at`

pub record Passing (s : List ℕ) (count i at : ℕ) : Type 0 where
  pub few : i ≤ 256
  pub within : at ≤ length s
  pub below : at ≤ i * 65539
  pub counted : i + length (rest_at s i at).entries ≡ count

pub passing-start : (s : List ℕ) {count : ℕ} → count ≡ length (walk s).entries → Passing s count 0 0
unfolding walk
passing-start s e = record { few = omega arith; within = omega arith; below = omega arith; counted = omega (arith, e) }

pub passing-none : {s : List ℕ} {count i at : ℕ} → Passing s count i at → count ≤ i → (rest_at s i at).entries ≡ []
passing-none {s} {count} {i} {at} h e = go (rest_at s i at).entries h.counted
  where
    go : (es : List Entry) → i + length es ≡ count → es ≡ []
    go [] q = refl
    go (x ∷ es) q = absurd (omega arith)

module _ {s : List ℕ} {count i at : ℕ} (h : Passing s count i at) (lt : i < count) where
  there : next.Entry (word_of (drop at s)) ≡ next_at (256 - i) (drop at s)
  there = has-entry (256 - i) at (drop at s) (omega (arith, h.counted))

  pub stood : Stands (256 - i) (drop at s) (word_of (drop at s))
  stood = stands (256 - i) (drop at s) (word_of (drop at s)) there

  pub whole : at + 4 ≤ length s
  whole = omega (arith, stood.whole, length-drop at s, h.within)

  module _ {w : ℕ} (ew : w ≡ word_of (drop at s)) where
    pub stood-small : length_of w ≤ 65535
    stood-small = rw ew stood.small

    pub passed-within : at + (4 + length_of w) ≤ length s
    passed-within = rw ew (omega (arith, stood.whole, length-drop at s, h.within))

    pub passed : rest_at s i at ≡ follows (entry_at (drop at s) w) (rest_at s (i + 1) (at + (4 + length_of w)))
    passed =
        let l : 256 - i - 1 ≡ 256 - (i + 1) = omega (arith, stood.some) in
        rw ew (walk-entry (256 - i) at (drop at s) (word_of (drop at s)) there ∙ rw (l, drop-drop (4 + length_of (word_of (drop at s))) at s))

    pub passing-next : Passing s count (i + 1) (at + (4 + length_of w))
    passing-next =
        let a = rw passed at h.counted in
        record {
          few = omega (arith, stood.some);
          within = passed-within;
          below = omega (arith, h.below, stood-small);
          counted = omega (arith, a);
        }

    pub is-of : (f : ℕ) → is_of f (entry_at (drop at s) w) ≡ eqb (flock_of w) f
    is-of f = rw (word-taken (drop at s), ← ew)

-- ---- the size of the list

abbrev pub list_of : ℕ → List Entry → List ℕ
list_of f es = entries_octets (of_flock f es)

pub record Sizing (f : ℕ) (s : List ℕ) (i at size : ℕ) : Type 0 where
  pub below : size ≤ at
  pub total : size + length (list_of f (rest_at s i at).entries) ≡ length (list_of f (walk s).entries)

pub sizing-start : (f : ℕ) (s : List ℕ) → Sizing f s 0 0 0
unfolding walk
sizing-start f s = record { below = omega arith; total = omega arith }

pub sizing-end : {f : ℕ} {s : List ℕ} {count i at size : ℕ} → Passing s count i at → Sizing f s i at size → count ≤ i → size ≡ length (list_of f (walk s).entries)
unfolding entries_octets of_flock
sizing-end h z e = let q = rw (passing-none h e) at z.total in omega (arith, q)

pick-length : (f : ℕ) (b : Bool) (e : Entry) (es : List Entry) → length (entries_octets (pick_if b e (of_flock f es))) ≡ cond b (length (entry_octets e)) 0 + length (list_of f es)
unfolding entries_octets
pick-length f true e es = length-append (entry_octets e) (list_of f es)
pick-length f false e es = omega arith

entry_length : (s : List ℕ) (at w : ℕ) → at + (4 + length_of w) ≤ length s → length (entry_octets (entry_at (drop at s) w)) ≡ 4 + length_of w
entry_length s at w h = ap (λ (x : List ℕ). length x) (sym (entry-part s at w h)) ∙ elements-length 0 s at (4 + length_of w)

picked-below : (b : Bool) (n : ℕ) {r : ℕ} → r ≡ cond b n 0 → r ≤ n
picked-below true n e = omega (arith, e)
picked-below false n e = omega (arith, e)

module _ {f : ℕ} {s : List ℕ} {count i at size w : ℕ} (h : Passing s count i at) (lt : i < count) (ew : w ≡ word_of (drop at s)) (z : Sizing f s i at size) where
  pub sizing-next : {b : Bool} {r : ℕ} → b ≡ eqb (flock_of w) f → r ≡ cond b (4 + length_of w) 0 → Sizing f s (i + 1) (at + (4 + length_of w)) (size + r)
  unfolding of_flock
  sizing-next {b} {r} eb er =
      let q = rw (passed h lt ew) at z.total in
      let p = pick-length f (is_of f (entry_at (drop at s) w)) (entry_at (drop at s) w) (rest_at s (i + 1) (at + (4 + length_of w))).entries in
      let g = rw (is-of h lt ew f, ← eb, entry_length s at w (passed-within h lt ew), ← er) at p in
      let a : is_of f (entry_at (drop at s) w) ≡ b = is-of h lt ew f ∙ sym eb in
      record {
        below = omega (arith, z.below, picked-below b (4 + length_of w) er);
        total = let t = rw a at q in omega (arith, t, g);
      }

-- ---- putting it

abbrev pub Listing : ℕ → List ℕ → List ℕ → List ℕ → ℕ → ℕ → ℕ → Type 0
Listing f s o₀ o i at w =
    Left o₀ 0 (list_of f (walk s).entries) (length (list_of f (walk s).entries)) o w (list_of f (rest_at s i at).entries) (length (list_of f (rest_at s i at).entries))

pub listing_start : (f : ℕ) (s o : List ℕ) → Listing f s o o 0 0 0
unfolding walk
listing_start f s o = left-start o 0 (list_of f (walk s).entries) (length (list_of f (walk s).entries))

pub listing-end : (f : ℕ) {s o₀ o : List ℕ} {count i at w : ℕ} → Passing s count i at → Listing f s o₀ o i at w → count ≤ i
    → Put o₀ 0 (list_of f (walk s).entries) (length (list_of f (walk s).entries)) o w
unfolding entries_octets of_flock
listing-end f h z e = left_end refl (rw (passing-none h e) at z)

-- one entry, put if it is the flock's
turn : (f : ℕ) (b : Bool) (e : Entry) (es : List Entry) {o₀ bs₀ o o' : List ℕ} {n₀ at r m : ℕ} {may : Bool} → length o₀ ≡ length o
    → n₀ ≤ length o₀
    → Left o₀ 0 bs₀ n₀ o at (entries_octets (pick_if b e (of_flock f es))) (length (entries_octets (pick_if b e (of_flock f es))))
    → m ≡ length (entry_octets e) → may ≡ true → PutIf (cond b (cond may (lies_within o at m) false) false) o at (entry_octets e) m o' r
    → Left o₀ 0 bs₀ n₀ o' r (list_of f es) (length (list_of f es))
unfolding entries_octets
turn f true e es {o₀} {bs₀} {o} {o'} {n₀} {at} {r} {m} k fits l em em₂ p =
    let j : length (entry_octets e ++ list_of f es) ≡ m + length (list_of f es) = length-append (entry_octets e) (list_of f es) ∙ rw em in
    let l₂ = rw j at l in
    let room : at + m ≤ length o = omega (arith, l₂.next, k, fits) in
    left_step l₂ (put_of (rw em₂ (le-leb (at + m) (length o) room)) p)
turn f false e es {o₀} {bs₀} {o} {o'} {n₀} {at} {r} k fits l em em₂ p = rw (p.next, p.all) l

module _ (f : ℕ) {s o₀ o : List ℕ} {count i at w v : ℕ} (h : Passing s count i at) (lt : i < count) (ew : w ≡ word_of (drop at s)) (z : Listing f s o₀ o i at v) where
  pub listing-next : {b : Bool} {o' : List ℕ} {r : ℕ} → length (list_of f (walk s).entries) ≤ length o₀ → b ≡ eqb (flock_of w) f
      → PutIf (cond b (cond (lies_within s at (4 + length_of w)) (lies_within o v (4 + length_of w)) false) false) o v (part s at (4 + length_of w)) (4 + length_of w) o' r
      → Listing f s o₀ o' (i + 1) (at + (4 + length_of w)) r
  unfolding of_flock
  listing-next {b} {o'} {r} fits eb p =
      let e = entry_at (drop at s) w in
      let a : is_of f e ≡ b = is-of h lt ew f ∙ sym eb in
      let q = rw (passed h lt ew, a) at z in
      let u = passed-within h lt ew in
      turn f b e (rest_at s (i + 1) (at + (4 + length_of w))).entries {may = lies_within s at (4 + length_of w)} (sym z.kept) fits q (sym (entry_length s at w u))
      (le-leb (at + (4 + length_of w)) (length s) u) (rw (entry-part s at w u) at p)

-- ---- the whole call

module _ (f : ℕ) (s : List ℕ) {b : Bundle} (e : b ≡ bundle_of (walk s)) where
  pub bundle-count : b.count ≡ length (walk s).entries
  bundle-count = ap (λ (x : Bundle). x.count) e

  number : b.number ≡ (walk s).stop
  number = ap (λ (x : Bundle). x.number) e

  pub list-stops : (o : List ℕ) → (b.number ≡ 0 → ⊥) → Served (flock_list f s) o o (Err (refused_at b.number b.end))
  unfolding flock_list
  list-stops o n =
      let z : eqb (walk s).stop 0 ≡ false = ne_eqb (walk s).stop 0 (λ q. n (number ∙ q)) in
      let y : b.end ≡ (walk s).end = ap (λ (x : Bundle). x.end) e in
      rw (z, number, y) (serve-wrong o (walk s).stop (walk s).end)

  module _ (n : b.number ≡ 0) where
    zero-stop : eqb (walk s).stop 0 ≡ true
    zero-stop = eq-eqb (walk s).stop 0 (sym number ∙ n)

    pub list-flockless : (o : List ℕ) → is_flock f ≡ false → Served (flock_list f s) o o (Err (refused_at bad_entry 0))
    unfolding flock_list
    list-flockless o g = rw (zero-stop, g) (serve-wrong o bad_entry 0)

    pub list-served : {o o' : List ℕ} {w : Written} → is_flock f ≡ true → Served (writes (list_of f (walk s).entries)) o o' w → Served (flock_list f s) o o' w
    unfolding flock_list
    list-served g h = rw (zero-stop, g) h
