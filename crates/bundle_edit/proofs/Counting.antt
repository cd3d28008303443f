-- A table as numbers, and the loop that counts the entries of a bundle.
use Prim.Native.Nat.{ℕ, zero, suc, ◌+◌, ◌*◌, ◌-◌, ◌≤◌, ◌<◌}
use mathlib.Core.Path.{◌≡◌, refl, sym, ap, ◌∙◌}
use mathlib.Core.Bool.{Bool, true, false, not, cond}
use mathlib.Core.List.{List, [], ◌∷◌, ◌++◌, append_assoc, append-nil}
use native.Mathlib.Omega.{arith}
use borrow.Author.Tests.{eqb-true, eqb-false, eq-eqb, ne_eqb}
use lib.Dec.{eqb}
use lib.ListN.{length, get_or, set, drop, replicate, length-append, length-replicate}
use Rattle.sound.specs.Placed.{Each}
use Rattle.output.specs.Splice.{splice}
use Rattle.bundle.specs.Bundle.{word_of, flock_of, delivered_of, length_of, is_flock, Entry, Walk, entry_at, walk, pick_if, of_flock}
use Rattle.bundle.specs.Answers.{bundle_of}
use Rattle.bundle.specs.declared.Bundle.{Bundle}
use Rattle.bundle.proofs.Walks.{rest_at, word-taken, text-length}
use Rattle.bundle.proofs.Lists.{Passing, passing-none, stood, passed}
use Rattle.flock_table.specs.Table.{picked, is_delivered, message_octets, record_of, totals, table_of, none, plus}
use Rattle.flock_table.specs.Tabulate.{tabulate}
use Rattle.flock_table.specs.declared.Flock.{Flock}
use Rattle.flock_table.proofs.Counted.{Short, picked-append, picked-few, picked-each, each_last, table-length, table-plus}
use Rattle.bundle_edit.specs.Changes.{record_numbers, table_numbers, record_at, head_record, is_counted, refused_changes, rebuild_changes, puts}

-- ---- a table as numbers

three : (k : ℕ) → suc k * 3 ≡ suc (suc (suc (k * 3)))
three k = omega arith

pub numbers-length : (t : List Flock) → length (table_numbers t) ≡ length t * 3
unfolding table_numbers
numbers-length [] = refl
numbers-length (r ∷ t) = let h = numbers-length t in omega (arith, h)

pub numbers-at : (t : List Flock) (k : ℕ) → record_at (table_numbers t) k ≡ get_or t k none
unfolding table_numbers
numbers-at [] k = refl
numbers-at (r ∷ t) zero = refl
numbers-at (r ∷ t) (suc k) =
    let one : suc k * 3 + 1 ≡ suc (suc (suc (k * 3 + 1))) = omega arith in
    let two : suc k * 3 + 2 ≡ suc (suc (suc (k * 3 + 2))) = omega arith in
    rw (one, two, three k) (numbers-at t k)

pub numbers-set : (t : List Flock) (k : ℕ) (r : Flock) → splice (table_numbers t) (k * 3) (record_numbers r) ≡ table_numbers (set t k r)
unfolding table_numbers
numbers-set [] k r = refl
numbers-set (s ∷ t) zero r = refl
numbers-set (s ∷ t) (suc k) r =
    let one : suc k * 3 + 1 ≡ suc (suc (suc (k * 3 + 1))) = omega arith in
    let two : suc k * 3 + 1 + 1 ≡ suc (suc (suc (k * 3 + 1 + 1))) = omega arith in
    let h = numbers-set t k r in
    rw (two, one, three k) (ap (λ (l : List ℕ). s.entries ∷ s.bytes ∷ s.undelivered ∷ l) h)

numbers-none : (n k : ℕ) → table_numbers (tabulate n k (λ (f : ℕ). totals f [])) ≡ replicate (n * 3) 0
unfolding table_numbers tabulate message_octets picked of_flock
numbers-none zero k = refl
numbers-none (suc n) k = rw (three n) (ap (λ (l : List ℕ). 0 ∷ 0 ∷ 0 ∷ l) (numbers-none n (k + 1)))

pub table_none : replicate 381 0 ≡ table_numbers (table_of [])
unfolding table_of
table_none = sym (numbers-none 127 1)

-- ---- an entry by its head

undelivered-one : (e : Entry) (b : Bool) → eqb (delivered_of (word_of e.head)) 1 ≡ b → length (pick_if (not b) e []) ≡ 1 - delivered_of (word_of e.head)
undelivered-one e true h = let q = eqb-true (delivered_of (word_of e.head)) 1 h in omega (arith, q)
undelivered-one e false h = let q = eqb-false (delivered_of (word_of e.head)) 1 h in omega (arith, q)

pub head-record : (e : Entry) → length e.text ≡ length_of (word_of e.head) → record_of (e ∷ []) ≡ head_record (word_of e.head)
unfolding picked message_octets
head-record e l =
    let u = undelivered-one e (is_delivered e) refl in
    let b : length e.text + 0 ≡ length_of (word_of e.head) = omega (arith, l) in
    rw (u, b)

-- ---- the loop

pub record Counting (s : List ℕ) (all : Bool) (i at : ℕ) (counts : List ℕ) : Type 0 where
  pub done : List Entry
  pub split : (walk s).entries ≡ done ++ (rest_at s i at).entries
  pub number : length done ≡ i
  pub short : Each Short done
  pub is : counts ≡ table_numbers (table_of (picked (is_counted all) done))

pub counting-start : (s : List ℕ) (all : Bool) {counts : List ℕ} → counts ≡ replicate 381 0 → Counting s all 0 0 counts
unfolding walk picked
counting-start s all e = record { done = []; split = refl; number = refl; short = tt; is = e ∙ table_none }

pub counting-length : {s : List ℕ} {all : Bool} {i at : ℕ} {counts : List ℕ} → Counting s all i at counts → length counts ≡ 381
counting-length {all = all} z = rw z.is (numbers-length (table_of (picked (is_counted all) z.done)) ∙ rw (table-length (picked (is_counted all) z.done)))

pub counting-same : {s : List ℕ} {all : Bool} {i at : ℕ} {counts counts₀ : List ℕ} → Counting s all i at counts → counts₀ ≡ replicate 381 0 → length counts ≡ length counts₀
counting-same z e = counting-length z ∙ sym (rw e (length-replicate {A = ℕ} 381 0))

pub counting-end : {s : List ℕ} {all : Bool} {count i at : ℕ} {counts : List ℕ} → Passing s count i at → Counting s all i at counts → count ≤ i
    → counts ≡ table_numbers (table_of (picked (is_counted all) (walk s).entries))
counting-end {s} {all} {count} {i} {at} h z e =
    let q : (walk s).entries ≡ z.done = z.split ∙ rw (passing-none h e) (append-nil z.done) in
    z.is ∙ ap (λ (es : List Entry). table_numbers (table_of (picked (is_counted all) es))) (sym q)

-- one entry more in numbers, if it is counted
counted : (b : Bool) (es : List Entry) (e : Entry) (w : ℕ) {counts counts' : List ℕ} → w ≡ word_of e.head → is_flock (flock_of w) ≡ true
    → length e.text ≡ length_of w → Each Short es → Short e → length es < 256 → counts ≡ table_numbers (table_of es)
    → counts' ≡ cond b (splice counts ((flock_of w - 1) * 3) (record_numbers (plus (record_at counts (flock_of w - 1)) (head_record w)))) counts
    → counts' ≡ table_numbers (table_of (es ++ pick_if b e []))
counted true es e w {counts} {counts'} ew hf l hs he few z q =
    let f = flock_of w in
    let r : record_of (e ∷ []) ≡ head_record w = head-record e (l ∙ ap length_of ew) ∙ ap head_record (sym ew) in
    let a : record_at counts (f - 1) ≡ get_or (table_of es) (f - 1) none = ap (λ (c : List ℕ). record_at c (f - 1)) z ∙ numbers-at (table_of es) (f - 1) in
    q ∙ rw (a, ← r) (ap (λ (c : List ℕ). splice c ((f - 1) * 3) (record_numbers (plus (get_or (table_of es) (f - 1) none) (record_of (e ∷ []))))) z)
    ∙ numbers-set (table_of es) (f - 1) (plus (get_or (table_of es) (f - 1) none) (record_of (e ∷ [])))
    ∙ ap table_numbers (table-plus es e f (ap flock_of (sym ew)) hf hs he few)
counted false es e w ew hf l hs he few z q = q ∙ z ∙ ap (λ (l : List Entry). table_numbers (table_of l)) (sym (append-nil es))

module _ {s : List ℕ} {all : Bool} {count i at w : ℕ} {counts : List ℕ} (h : Passing s count i at) (lt : i < count) (ew : w ≡ word_of (drop at s)) (z : Counting s all i at counts) where
  abbrev e : Entry
  e = entry_at (drop at s) w

  pub counting-flock : is_flock (flock_of w) ≡ true
  counting-flock = rw ew (stood h lt).flock

  word : w ≡ word_of (entry_at (drop at s) w).head
  word = ew ∙ sym (word-taken (drop at s))

  long : length (entry_at (drop at s) w).text ≡ length_of w
  long = text-length (drop at s) w (rw ew (stood h lt).whole)

  short : Short (entry_at (drop at s) w)
  short = rw (long, ew) (stood h lt).small

  pub counting-next : {b : Bool} {counts' : List ℕ} → b ≡ cond all true (eqb (delivered_of w) 1)
      → counts' ≡ cond b (splice counts ((flock_of w - 1) * 3) (record_numbers (plus (record_at counts (flock_of w - 1)) (head_record w)))) counts
      → Counting s all (i + 1) (at + (4 + length_of w)) counts'
  unfolding picked
  counting-next {b} {counts'} eb q =
      let d = z.done in
      let rest = (rest_at s (i + 1) (at + (4 + length_of w))).entries in
      let es = picked (is_counted all) d in
      let p : is_counted all e ≡ b = ap (λ (v : ℕ). cond all true (eqb (delivered_of v) 1)) (sym word) ∙ sym eb in
      let few : length es < 256 = omega (arith, picked-few (is_counted all) d, z.number, (stood h lt).some) in
      let g : picked (is_counted all) (d ++ e ∷ []) ≡ es ++ pick_if b e [] = picked-append (is_counted all) d (e ∷ []) ∙ ap (λ (t : Bool). es ++ pick_if t e []) p in
      record {
        done = d ++ e ∷ [];
        split = z.split ∙ ap (λ (x : Walk). d ++ x.entries) (passed h lt ew) ∙ sym (append_assoc d (e ∷ []) rest);
        number = length-append d (e ∷ []) ∙ rw z.number;
        short = each_last Short d e z.short short;
        is =
            counted b es e w word counting-flock long (picked-each Short (is_counted all) d z.short) short few z.is q
            ∙ ap (λ (l : List Entry). table_numbers (table_of l)) (sym g);
      }

-- ---- the rebuild

pub picked_all : (es : List Entry) → picked (is_counted true) es ≡ es
unfolding picked
picked_all [] = refl
picked_all (x ∷ es) = ap (λ (l : List Entry). x ∷ l) (picked_all es)

module _ (n : ℕ) (s : List ℕ) where
  pub rebuild-none : eqb n 127 ≡ false → refused_changes (length s) 16 0 ≡ rebuild_changes n s
  unfolding rebuild_changes
  rebuild-none h = sym (rw h)

  module _ (h : eqb n 127 ≡ true) {b : Bundle} (e : b ≡ bundle_of (walk s)) where
    number : b.number ≡ (walk s).stop
    number = ap (λ (x : Bundle). x.number) e

    pub bundle-count : b.count ≡ length (walk s).entries
    bundle-count = ap (λ (x : Bundle). x.count) e

    pub rebuild-stops : (b.number ≡ 0 → ⊥) → refused_changes (length s) b.number b.end ≡ rebuild_changes n s
    unfolding rebuild_changes
    rebuild-stops z =
        let q : eqb (walk s).stop 0 ≡ false = ne_eqb (walk s).stop 0 (λ x. z (number ∙ x)) in
        let y : b.end ≡ (walk s).end = ap (λ (x : Bundle). x.end) e in
        rw (h, q, number, y)

    pub rebuild-puts : b.number ≡ 0 → {counts : List ℕ} → counts ≡ table_numbers (table_of (picked (is_counted true) (walk s).entries))
        → record { kind = puts; number = 0; place = 0; used = length s; counts = counts } ≡ rebuild_changes n s
    unfolding rebuild_changes
    rebuild-puts z {counts} q =
        let g : eqb (walk s).stop 0 ≡ true = eq-eqb (walk s).stop 0 (sym number ∙ z) in
        let c : counts ≡ table_numbers (table_of (walk s).entries) = q ∙ ap (λ (l : List Entry). table_numbers (table_of l)) (picked_all (walk s).entries) in
        rw (h, g, c)
