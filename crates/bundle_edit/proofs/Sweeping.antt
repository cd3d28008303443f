-- The loops of a mark and of a sweep over the entries of a bundle.
use Prim.Native.Nat.{ℕ, zero, suc, ◌+◌, ◌*◌, ◌/◌, ◌≤◌, ◌<◌, ◌-◌}
use mathlib.Core.Path.{◌≡◌, refl, sym, ap, subst, ◌∙◌}
use mathlib.Core.Bool.{Bool, true, false, not, cond}
use mathlib.Core.List.{List, [], ◌∷◌, ◌++◌, append_assoc, append-nil}
use native.Mathlib.Omega.{arith}
use borrow.Author.Tests.{eqb-true, eqb-false, eq-eqb, ne_eqb, le-leb, lt-leb, lt-ltb, le-ltb, ltb-true}
use lib.Dec.{leb, ltb, eqb}
use lib.ListN.{length, get_or, set, take, drop, length-append, take-append-drop}
use lib.Seq.{get_or-take, get_or-drop, get_or_at, take_at, drop-set-lt, length-take-le, take-add}
use Rattle.octets.proofs.Kit.{either}
use Rattle.output.specs.Splice.{splice, part}
use Rattle.output.proofs.Laws.{splice-length, splice-append, splice-is, elements-length, elements-take}
use Rattle.bundle.specs.Bundle.{word_of, flock_of, delivered_of, length_of, is_flock, Entry, entry_octets, entries_octets, Walk, entry_at, walk, pick_if}
use Rattle.bundle.specs.Answers.{bundle_of}
use Rattle.bundle.specs.declared.Bundle.{Bundle}
use Rattle.bundle.proofs.Walks.{rest_at, word-taken}
use Rattle.bundle.proofs.Lists.{Passing, passing-start, passing-next, passing-none, stood, passed, passed-within, whole, entry-part}
use Rattle.flock_table.specs.Table.{picked, is_delivered, is_undelivered}
use Rattle.flock_table.proofs.Counted.{flock-least, picked-append}
use Rattle.bundle_edit.specs.Calls.{on_bundle}
use Rattle.bundle_edit.specs.Delivery.{entry_number, entry_place, kept_octets, judged_call, Finds, none_there, idle_plan, marking_plan, mark_plan_of, marked_of, mark_plan, marked, sweep_changes, swept}
use Rattle.bundle_edit.specs.Changes.{refused_changes, changes_by, table_numbers, takes_off}
use Rattle.flock_table.specs.Table.{table_of}
use Rattle.octets.specs.declared.Refused.{Refused}
use Rattle.octets.specs.Refusals.{refused_at}
use Rattle.std.proofs.Common.{Option, Some, None, Result, Ok, Err}
use Rattle.bundle_edit.specs.declared.Plan.{Plan}
use Rattle.bundle_edit.specs.declared.Changes.{Changes}

part_length : (l : List ℕ) (from n : ℕ) → length (part l from n) ≡ n
part_length l from n = elements-length 0 l from n

-- ---- behind i entries, at the place `at`

pub record Past (s : List ℕ) (i at : ℕ) : Type 0 where
  pub done : List Entry
  pub split : (walk s).entries ≡ done ++ (rest_at s i at).entries
  pub number : length done ≡ i
  pub place : at ≡ length (entries_octets done)

pub past-start : (s : List ℕ) → Past s 0 0
unfolding walk entries_octets
past-start s = record { done = []; split = refl; number = refl; place = refl }

pub octets-last : (es : List Entry) (e : Entry) → entries_octets (es ++ e ∷ []) ≡ entries_octets es ++ entry_octets e
unfolding entries_octets
octets-last [] e = append-nil (entry_octets e)
octets-last (x ∷ es) e = ap (λ (l : List ℕ). entry_octets x ++ l) (octets-last es e) ∙ sym (append_assoc (entry_octets x) (entries_octets es) (entry_octets e))

module _ {s : List ℕ} {count i at w : ℕ} (h : Passing s count i at) (lt : i < count) (ew : w ≡ word_of (drop at s)) (z : Past s i at) where
  abbrev e : Entry
  e = entry_at (drop at s) w

  long : length (entry_octets (entry_at (drop at s) w)) ≡ 4 + length_of w
  long = ap (λ (x : List ℕ). length x) (sym (entry-part s at w (passed-within h lt ew))) ∙ part_length s at (4 + length_of w)

  pub past_next : Past s (i + 1) (at + (4 + length_of w))
  past_next =
      let d = z.done in
      let rest = (rest_at s (i + 1) (at + (4 + length_of w))).entries in
      record {
        done = d ++ e ∷ [];
        split = z.split ∙ ap (λ (x : Walk). d ++ x.entries) (passed h lt ew) ∙ sym (append_assoc d (e ∷ []) rest);
        number = length-append d (e ∷ []) ∙ rw z.number;
        place = ap (λ (k : ℕ). k + (4 + length_of w)) z.place ∙ sym (ap (λ (l : List ℕ). length l) (octets-last d e) ∙ length-append (entries_octets d) (entry_octets e) ∙ rw long);
      }

-- where the i-th entry begins
pub past-place : {s : List ℕ} {i at : ℕ} → Past s i at → at ≡ entry_place (walk s).entries i
past-place {s} {i} {at} z =
    z.place ∙ ap (λ (es : List Entry). length (entries_octets es)) (sym (ap (take i) z.split ∙ take_at z.done (rest_at s i at).entries i z.number))

-- behind i of them
pub past-at : {s : List ℕ} {count i k at : ℕ} → Past s k at → k ≤ i → i ≤ k → Passing s count k at → at ≡ entry_place (walk s).entries i
past-at {s} {count} {i} {k} {at} z a b h = let q : k ≡ i = omega (arith, a, b) in past-place z ∙ ap (entry_place (walk s).entries) q

-- it stands there
pub past_finds : {s : List ℕ} {count i at w : ℕ} → Passing s count i at → i < count → w ≡ word_of (drop at s) → Past s i at → Finds s (walk s).entries i at w
past_finds {s} {count} {i} {at} {w} h lt ew z =
    let e = entry_at (drop at s) w in
    let rest = (rest_at s (i + 1) (at + (4 + length_of w))).entries in
    let q : (walk s).entries ≡ z.done ++ e ∷ rest = z.split ∙ ap (λ (x : Walk). z.done ++ x.entries) (passed h lt ew) in
    let g : entry_number (walk s).entries i ≡ e = ap (λ (es : List Entry). get_or es i none_there) q ∙ get_or_at z.done e rest none_there i z.number in
    record {
      place = past-place z;
      head = ew ∙ sym (word-taken (drop at s)) ∙ ap (λ (x : Entry). word_of x.head) (sym g);
      flock = rw ew (stood h lt).flock;
      within = whole h lt;
      stands = ew;
    }

-- from its place alone: the entries before it were passed
passing-to : (s : List ℕ) {count : ℕ} → count ≡ length (walk s).entries → (i : ℕ) → i ≤ count → (at : ℕ) × (Passing s count i at × Past s i at)
passing-to s c zero l = (0, (passing-start s c, past-start s))
passing-to s {count} c (suc i) l =
    let p = passing-to s c i (omega (arith, l)) in
    let lt : i < count = omega (arith, l) in
    let at = p.0 in
    let w = word_of (drop at s) in
    let e : i + 1 ≡ suc i = omega arith in (
      at + (4 + length_of w),
      subst (λ (k : ℕ). Passing s count k (at + (4 + length_of w)) × Past s k (at + (4 + length_of w))) e
          (passing-next p.1.0 lt refl, past_next p.1.0 lt refl p.1.1),
    )

module _ (s : List ℕ) {count i : ℕ} (c : count ≡ length (walk s).entries) (lt : i < count) {at : ℕ} (e : at ≡ entry_place (walk s).entries i) where
  here-is : (passing-to s c i (omega (arith, lt))).0 ≡ at
  here-is = past-place (passing-to s c i (omega (arith, lt))).1.1 ∙ sym e

  arrived : Passing s count i at × Past s i at
  arrived = subst (λ (k : ℕ). Passing s count i k × Past s i k) here-is (passing-to s c i (omega (arith, lt))).1

  pub placed-within : at + 4 ≤ length s
  placed-within = whole arrived.0 lt

  pub placed-finds : {w : ℕ} → w ≡ word_of (drop at s) → Finds s (walk s).entries i at w
  placed-finds ew = past_finds arrived.0 lt ew arrived.1

-- ---- in the front of a buffer

-- the head at a place within the first octets
pub word-front : (b : List ℕ) (used at : ℕ) → at + 4 ≤ used → word_of (drop at (take used b)) ≡ word_of (drop at b)
unfolding word_of
word-front b used at h = rw (one 0 (omega (arith, h)), one 1 (omega (arith, h)), one 2 (omega (arith, h)), one 3 (omega (arith, h)))
  where
    one : (i : ℕ) → at + i < used → get_or (drop at (take used b)) i 0 ≡ get_or (drop at b) i 0
    one i l = get_or-drop at (take used b) i 0 ∙ get_or-take used b (at + i) 0 l ∙ sym (get_or-drop at b i 0)

pub finds-front : {b : List ℕ} {es : List Entry} {used i at w : ℕ} → used ≤ length b → Finds (take used b) es i at w → Finds b es i at w
finds-front {b} {es} {used} {i} {at} {w} u f =
    let l = length-take-le used b u in
    record {
      place = f.place;
      head = f.head;
      flock = f.flock;
      within = omega (arith, f.within, l, u);
      stands = f.stands ∙ word-front b used at (omega (arith, f.within, l));
    }

-- the octets of a part, within the first octets
part-front : (b : List ℕ) (used at n : ℕ) → used ≤ length b → at + n ≤ used → part (take used b) at n ≡ part b at n
part-front b used at zero u h = refl
part-front b used at (suc n) u h =
    ap (λ (x : ℕ). x ∷ part (take used b) (at + 1) n) (get_or-take used b at 0 (omega (arith, h)))
    ∙ ap (λ (l : List ℕ). get_or b at 0 ∷ l) (part-front b used (at + 1) n u (omega (arith, h)))

-- ---- octets moved forward

-- what stands behind a splice is as it was
splice-behind : (o : List ℕ) (at : ℕ) (bs : List ℕ) (k : ℕ) → at + length bs ≤ k → drop k (splice o at bs) ≡ drop k o
splice-behind o at [] k h = refl
splice-behind o at (b ∷ bs) k h = splice-behind (set o at b) (at + 1) bs k (omega (arith, h)) ∙ drop-set-lt k o at b (omega (arith, h))

-- an entry that stays where it is
pub splice-self : (b : List ℕ) (at n : ℕ) → at + n ≤ length b → b ≡ splice b at (part b at n)
splice-self b at n h =
    let p : part b at n ≡ take n (drop at b) = elements-take 0 b at n h in
    let l : length (part b at n) ≡ n = part_length b at n in
    sym (splice-is b at (part b at n) (omega (arith, h, l))
    ∙ ap (λ (k : ℕ). take at b ++ part b at n ++ drop (at + k) b) l
    ∙ ap (λ (x : List ℕ). take at b ++ x ++ drop (at + n) b) p
    ∙ ap (λ (x : List ℕ). x ++ drop (at + n) b) (sym (take-add at n b))
    ∙ take-append-drop (at + n) b)

module _ (b : List ℕ) (end at n : ℕ) where
  pub keep-none : {d : Bool} → d ≡ true → (end ≡ cond d end (end + n)) × (b ≡ cond d b (splice b end (part b at n)))
  keep-none e = rw e (refl, refl)

  pub keep-here : {d : Bool} → d ≡ false → end ≡ at → at + n ≤ length b → (end + n ≡ cond d end (end + n)) × (b ≡ cond d b (splice b end (part b at n)))
  keep-here e q h = rw (e, q) (refl, splice-self b at n h)

  pub keep-moved : {d : Bool} {b' : List ℕ} → d ≡ false → b' ≡ splice b end (part b at n) → (end + n ≡ cond d end (end + n)) × (b' ≡ cond d b (splice b end (part b at n)))
  keep-moved e q = rw e (refl, q)

-- ---- the sweep's loop

pub record Keeps (b₀ : List ℕ) (used : ℕ) (b : List ℕ) (i at end : ℕ) : Type 0 where
  pub past : Past (take used b₀) i at
  pub is : b ≡ splice b₀ 0 (kept_octets past.done)
  pub ends : end ≡ length (kept_octets past.done)
  pub before : end ≤ at

pub keeps-start : (b : List ℕ) (used : ℕ) → Keeps b used b 0 0 0
unfolding entries_octets picked past-start
keeps-start b used = record { past = past-start (take used b); is = refl; ends = refl; before = omega arith }

-- one entry more, kept if it is not delivered
kept_more : (d : Bool) (b₀ b : List ℕ) (es : List Entry) (e : Entry) (end n : ℕ) {b' : List ℕ} {r : ℕ} → b ≡ splice b₀ 0 (entries_octets es) → end ≡ length (entries_octets es)
    → n ≡ length (entry_octets e) → r ≡ cond d end (end + n) → b' ≡ cond d b (splice b end (entry_octets e))
    → (b' ≡ splice b₀ 0 (entries_octets (es ++ pick_if (not d) e []))) × (r ≡ length (entries_octets (es ++ pick_if (not d) e [])))
kept_more true b₀ b es e end n eb ee en er q = rw (append-nil es) (q ∙ eb, er ∙ ee)
kept_more false b₀ b es e end n eb ee en er q =
    let o = entries_octets es in
    let z : end ≡ 0 + length o = omega (arith, ee) in
    rw (octets-last es e) (
      q ∙ ap (λ (l : List ℕ). splice l end (entry_octets e)) eb ∙ ap (λ (k : ℕ). splice (splice b₀ 0 o) k (entry_octets e)) z ∙ splice-append b₀ 0 o (entry_octets e),
      er ∙ omega (arith, ee, en, length-append o (entry_octets e)),
    )

end_before : (d : Bool) (n : ℕ) {end at r : ℕ} → r ≡ cond d end (end + n) → end ≤ at → r ≤ at + n
end_before true n q h = omega (arith, q, h)
end_before false n q h = omega (arith, q, h)

pub keeps-length : {b₀ b : List ℕ} {used i at end : ℕ} → Keeps b₀ used b i at end → length b ≡ length b₀
keeps-length {b₀} z = rw z.is (splice-length b₀ 0 (kept_octets z.past.done))

module _ {b₀ b : List ℕ} {used count i at end : ℕ} (u : used ≤ length b₀) (h : Passing (take used b₀) count i at) (lt : i < count) (z : Keeps b₀ used b i at end) where
  front_long : length (take used b₀) ≡ used
  front_long = length-take-le used b₀ u

  pub keeps-whole : at + 4 ≤ length b
  keeps-whole = omega (arith, whole h lt, front_long, u, keeps-length z)

  behind : drop at b ≡ drop at b₀
  behind = rw z.is (splice-behind b₀ 0 (kept_octets z.past.done) at (omega (arith, z.ends, z.before)))

  module _ {w : ℕ} (ew : w ≡ word_of (drop at b)) where
    pub keeps-word : w ≡ word_of (drop at (take used b₀))
    keeps-word = ew ∙ ap word_of behind ∙ sym (word-front b₀ used at (omega (arith, whole h lt, front_long)))

    pub keeps-within : at + (4 + length_of w) ≤ length b
    keeps-within = omega (arith, passed-within h lt keeps-word, front_long, u, keeps-length z)

    abbrev here : Entry
    here = entry_at (drop at (take used b₀)) w

    same-part : part b at (4 + length_of w) ≡ entry_octets (entry_at (drop at (take used b₀)) w)
    same-part =
        elements-take 0 b at (4 + length_of w) keeps-within ∙ ap (take (4 + length_of w)) behind
        ∙ sym (elements-take 0 b₀ at (4 + length_of w) (omega (arith, keeps-within, keeps-length z)))
        ∙ sym (part-front b₀ used at (4 + length_of w) u (omega (arith, passed-within h lt keeps-word, front_long)))
        ∙ entry-part (take used b₀) at w (passed-within h lt keeps-word)

    pub keeps-next : {d : Bool} {b' : List ℕ} {r : ℕ} → d ≡ eqb (delivered_of w) 1
        → (r ≡ cond d end (end + (4 + length_of w))) × (b' ≡ cond d b (splice b end (part b at (4 + length_of w))))
        → Keeps b₀ used b' (i + 1) (at + (4 + length_of w)) r
    unfolding picked past_next
    keeps-next {d} {b'} {r} ed q =
        let n = 4 + length_of w in
        let done = z.past.done in
        let p : is_delivered here ≡ d = ap (λ (v : ℕ). eqb (delivered_of v) 1) (word-taken (drop at (take used b₀)) ∙ sym keeps-word) ∙ sym ed in
        let g : picked is_undelivered (done ++ here ∷ []) ≡ picked is_undelivered done ++ pick_if (not d) here [] =
        picked-append is_undelivered done (here ∷ []) ∙ ap (λ (t : Bool). picked is_undelivered done ++ pick_if (not t) here []) p in
        let k = kept_more d b₀ b (picked is_undelivered done) here end n z.is z.ends (sym (part_length b at n) ∙ ap (λ (l : List ℕ). length l) same-part) q.0
        (q.1 ∙ ap (λ (l : List ℕ). cond d b (splice b end l)) same-part) in
        record {
          past = past_next h lt keeps-word z.past;
          is = k.0 ∙ ap (λ (l : List Entry). splice b₀ 0 (entries_octets l)) (sym g);
          ends = k.1 ∙ ap (λ (l : List Entry). length (entries_octets l)) (sym g);
          before = end_before d n q.0 z.before;
        }

pub keeps-end : {b₀ b : List ℕ} {used count i at end : ℕ} → Passing (take used b₀) count i at → Keeps b₀ used b i at end → count ≤ i
    → (end ≡ length (kept_octets (walk (take used b₀)).entries)) × (b ≡ splice b₀ 0 (kept_octets (walk (take used b₀)).entries))
keeps-end {b₀} {b} {used} h z e =
    let q : (walk (take used b₀)).entries ≡ z.past.done = z.past.split ∙ rw (passing-none h e) (append-nil z.past.done) in
    rw q (z.ends, z.is)

-- ---- what is judged first

abbrev turned_down : ℕ → ℕ → Result ℕ Refused
turned_down k p = Err (refused_at k p)

module _ (n : ℕ) (b : List ℕ) (used : ℕ) where
  pub judge-none : eqb n 127 ≡ false → turned_down 16 0 ≡ judged_call n b used
  unfolding judged_call
  judge-none h = sym (rw h)

  module _ (h : eqb n 127 ≡ true) where
    pub judge-past : length b < used → turned_down 13 0 ≡ judged_call n b used
    unfolding judged_call
    judge-past l = sym (rw (h, lt-leb used (length b) l))

    module _ (u : used ≤ length b) {z : Bundle} (e : z ≡ bundle_of (walk (take used b))) where
      number : z.number ≡ (walk (take used b)).stop
      number = ap (λ (x : Bundle). x.number) e

      pub judge-stops : (z.number ≡ 0 → ⊥) → turned_down z.number z.end ≡ judged_call n b used
      unfolding judged_call
      judge-stops k =
          let q : eqb (walk (take used b)).stop 0 ≡ false = ne_eqb (walk (take used b)).stop 0 (λ x. k (number ∙ x)) in
          let y : z.end ≡ (walk (take used b)).end = ap (λ (x : Bundle). x.end) e in
          rw (h, le-leb used (length b) u, q, number, y)

      pub judge-good : z.number ≡ 0 → Ok z.count ≡ judged_call n b used
      unfolding judged_call
      judge-good k =
          let q : eqb (walk (take used b)).stop 0 ≡ true = eq-eqb (walk (take used b)).stop 0 (sym number ∙ k) in
          let y : z.count ≡ length (walk (take used b)).entries = ap (λ (x : Bundle). x.count) e in
          rw (h, le-leb used (length b) u, q, y)

no-count : {A : Type 0} {k p count : ℕ} → turned_down k p ≡ Ok count → A
no-count e = let z : ◌≡◌ {A = ℕ} 0 1 = cc in absurd (omega arith)

-- a call that is accepted
pub record Accepts (n : ℕ) (b : List ℕ) (used count : ℕ) : Type 0 where
  pub table : eqb n 127 ≡ true
  pub within : leb used (length b) ≡ true
  pub bundle : eqb (walk (take used b)).stop 0 ≡ true
  pub counted : count ≡ length (walk (take used b)).entries

accepted : (n : ℕ) (b : List ℕ) (used : ℕ) (x y z : Bool) → eqb n 127 ≡ x → leb used (length b) ≡ y → eqb (walk (take used b)).stop 0 ≡ z
    → (count : ℕ)
    → cond x (cond y (cond z (Ok (length (walk (take used b)).entries)) (turned_down (walk (take used b)).stop (walk (take used b)).end)) (turned_down 13 0)) (turned_down 16 0) ≡ Ok count
    → Accepts n b used count
accepted n b used true true true ex ey ez count e = let q : count ≡ length (walk (take used b)).entries = cc in record { table = ex; within = ey; bundle = ez; counted = q }
accepted n b used true true false ex ey ez count e = no-count e
accepted n b used true false z ex ey ez count e = no-count e
accepted n b used false y z ex ey ez count e = no-count e

pub judged-good : (n : ℕ) (b : List ℕ) (used : ℕ) {count : ℕ} → judged_call n b used ≡ Ok count → Accepts n b used count
unfolding judged_call
judged-good n b used {count} e = accepted n b used (eqb n 127) (leb used (length b)) (eqb (walk (take used b)).stop 0) refl refl refl count e

-- its answer is that of the entries
pub on-good : {A : Type 0} (n : ℕ) (b : List ℕ) (used count : ℕ) → Accepts n b used count → (refuse : ℕ → ℕ → A) (answer : List Entry → A)
    → answer (walk (take used b)).entries ≡ on_bundle refuse n b used answer
on-good n b used count a refuse answer = sym (rw (a.table, a.within, a.bundle))

refused-by : {A : Type 0} (x y z : Bool) (k p c : ℕ) (refuse : ℕ → ℕ → A) (answer : A) (e : Refused)
    → cond x (cond y (cond z (Ok c) (turned_down k p)) (turned_down 13 0)) (turned_down 16 0) ≡ Err e
    → refuse e.number e.place ≡ cond x (cond y (cond z answer (refuse k p)) (refuse 13 0)) (refuse 16 0)
refused-by true true true k p c refuse answer e h = let z : ◌≡◌ {A = ℕ} 0 1 = cc in absurd (omega arith)
refused-by true true false k p c refuse answer e h = let q : e ≡ refused_at k p = cc in ap (λ (v : Refused). refuse v.number v.place) q
refused-by true false z k p c refuse answer e h = let q : e ≡ refused_at 13 0 = cc in ap (λ (v : Refused). refuse v.number v.place) q
refused-by false y z k p c refuse answer e h = let q : e ≡ refused_at 16 0 = cc in ap (λ (v : Refused). refuse v.number v.place) q

-- and a refused one is refused so, whatever it answers
pub on-bad : {A : Type 0} (n : ℕ) (b : List ℕ) (used : ℕ) {e : Refused} → judged_call n b used ≡ Err e → (refuse : ℕ → ℕ → A) (answer : List Entry → A)
    → refuse e.number e.place ≡ on_bundle refuse n b used answer
unfolding judged_call
on-bad n b used {e} h refuse answer =
    refused-by (eqb n 127) (leb used (length b)) (eqb (walk (take used b)).stop 0) (walk (take used b)).stop (walk (take used b)).end
    (length (walk (take used b)).entries) refuse (answer (walk (take used b)).entries) e h

-- ---- a mark

module _ (b : List ℕ) (used i : ℕ) (es : List Entry) {count : ℕ} (c : count ≡ length es) where
  pub mark-none : {r : Plan} → count ≤ i → r ≡ idle_plan used 18 0 → (r ≡ mark_plan_of used i es) × (b ≡ marked_of b i es)
  mark-none l e = rw (le-ltb i (length es) (rw (← c) l)) (e, refl)

  module _ (l : i < count) {at w : ℕ} (f : Finds b es i at w) where
    there : ltb i (length es) ≡ true
    there = lt-ltb i (length es) (rw (← c) l)

    mark : {d : Bool} → d ≡ eqb (delivered_of w) 1 → is_delivered (entry_number es i) ≡ d
    mark e = ap (λ (v : ℕ). eqb (delivered_of v) 1) (sym f.head) ∙ sym e

    pub mark-again : {d : Bool} {r : Plan} → d ≡ eqb (delivered_of w) 1 → d ≡ true → r ≡ idle_plan used 0 0 → (r ≡ mark_plan_of used i es) × (b ≡ marked_of b i es)
    mark-again ed t e = rw (there, mark ed ∙ t) (e, refl)

    pub mark-sets : {d : Bool} {r : Plan} {b' : List ℕ} → d ≡ eqb (delivered_of w) 1 → d ≡ false → r ≡ marking_plan used w → b' ≡ set b at (get_or b at 0 + 1)
        → (r ≡ mark_plan_of used i es) × (b' ≡ marked_of b i es)
    mark-sets ed t e q = rw (there, mark ed ∙ t) (e ∙ ap (marking_plan used) f.head, q ∙ ap (λ (k : ℕ). set b k (get_or b k 0 + 1)) f.place)

-- the first octet of an undelivered head is no 255: what its four octets show is at least so many times 2^24
pub first_small : (b : List ℕ) (at w : ℕ) → w < 4294967296 → w ≡ word_of (drop at b) → eqb (delivered_of w) 1 ≡ false → get_or b at 0 + 1 < 256
unfolding word_of
first_small b at w h e d =
    let z : at + 0 ≡ at = omega arith in
    let q : get_or (drop at b) 0 0 ≡ get_or b at 0 = get_or-drop at b 0 0 ∙ ap (λ (k : ℕ). get_or b k 0) z in
    let k = eqb-false (delivered_of w) 1 d in
    let l : get_or (drop at b) 0 0 * 16777216 ≤ w = omega (arith, e) in
    let m : w / 16777216 ≤ 254 = omega (arith, h, k) in
    omega (arith, q, l, m)

module _ (n : ℕ) (b : List ℕ) (used i : ℕ) {r : Plan} where
  pub mark-done : {b' : List ℕ} {count : ℕ} → Accepts n b used count
      → (r ≡ mark_plan_of used i (walk (take used b)).entries) × (b' ≡ marked_of b i (walk (take used b)).entries) → (r ≡ mark_plan n b used i) × (b' ≡ marked n b used i)
  unfolding mark_plan marked
  mark-done {b'} {count} a q = (q.0 ∙ on-good n b used count a (idle_plan used) (mark_plan_of used i), q.1 ∙ on-good n b used count a (λ _ _. b) (marked_of b i))

  pub mark-refused : {e : Refused} → judged_call n b used ≡ Err e → r ≡ idle_plan used e.number e.place
      → (r ≡ mark_plan n b used i) × (b ≡ marked n b used i)
  unfolding mark_plan marked
  mark-refused e q = (q ∙ on-bad n b used e (idle_plan used) (mark_plan_of used i), on-bad n b used e (λ _ _. b) (marked_of b i))

-- ---- a sweep

abbrev off : List Entry → Changes
off es = changes_by takes_off (length (kept_octets es)) (picked is_delivered es)

module _ (n : ℕ) (b : List ℕ) (used : ℕ) where
  pub sweep-done : {b' counts : List ℕ} {count end : ℕ} → Accepts n b used count → counts ≡ table_numbers (table_of (picked is_delivered (walk (take used b)).entries))
      → (end ≡ length (kept_octets (walk (take used b)).entries)) × (b' ≡ splice b 0 (kept_octets (walk (take used b)).entries))
      → (record { kind = takes_off; number = 0; place = 0; used = end; counts = counts } ≡ sweep_changes n b used) × (b' ≡ swept n b used)
  unfolding sweep_changes swept
  sweep-done {b'} {counts} {count} {end} a ec q =
      let c : record { kind = takes_off; number = 0; place = 0; used = end; counts = counts } ≡ off (walk (take used b)).entries = rw (ec, q.0) in
      (c ∙ on-good n b used count a (refused_changes used) off, q.1 ∙ on-good n b used count a (λ _ _. b) (λ es. splice b 0 (kept_octets es)))

  pub sweep-refused : {e : Refused} {r : Changes} → judged_call n b used ≡ Err e → r ≡ refused_changes used e.number e.place
      → (r ≡ sweep_changes n b used) × (b ≡ swept n b used)
  unfolding sweep_changes swept
  sweep-refused e q = (q ∙ on-bad n b used e (refused_changes used) off, on-bad n b used e (λ _ _. b) (λ es. splice b 0 (kept_octets es)))

-- ---- the record that a mark changes

-- each entry of a walk is a flock's
flock-at : (s : List ℕ) (i : ℕ) → i < length (walk s).entries → is_flock (flock_of (word_of (entry_number (walk s).entries i).head)) ≡ true
flock-at s i l =
    let f = placed-finds s {count = length (walk s).entries} refl l {at = entry_place (walk s).entries i} refl refl in
    subst (λ (w : ℕ). is_flock (flock_of w) ≡ true) f.head f.flock

no-index : {A : Type 0} {k : ℕ} → ◌≡◌ {A = Option ℕ} None (Some k) → A
no-index e = let z : ◌≡◌ {A = ℕ} 0 1 = cc in absurd (omega arith)

pub mark-index : (n : ℕ) (b : List ℕ) (used i : ℕ) {k : ℕ} → (mark_plan n b used i).index ≡ Some k → k < n
unfolding mark_plan
mark-index n b used i {k} =
    let Q : Plan → Type 0 = λ (p : Plan). p.index ≡ Some k → k < n in
    let w = walk (take used b) in
    let v = word_of (entry_number w.entries i).head in
    either Q (eqb n 127) _ _
    (λ x.
    either Q (leb used (length b)) _ _
    (λ _.
    either Q (eqb w.stop 0) _ _
    (λ _.
    either Q (ltb i (length w.entries)) _ _
    (λ l.
    either Q (is_delivered (entry_number w.entries i)) (idle_plan used 0 0) (marking_plan used v) (λ _. no-index)
    (λ _ g.
    let h = flock-least (flock_of v) (flock-at (take used b) i (ltb-true i (length w.entries) l)) in
    let e = eqb-true n 127 x in
    let q : flock_of v - 1 ≡ k = cc in
    omega (arith, h.0, h.1, e, q)))
    (λ _. no-index))
    (λ _. no-index))
    (λ _. no-index))
    (λ _. no-index)
