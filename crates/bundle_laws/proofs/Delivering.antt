-- What a mark and a sweep do to the octets of good entries, and to their table.
use Prim.Native.Nat.{ℕ, zero, suc, ◌+◌, ◌-◌, ◌/◌, ◌%◌, ◌≤◌, ◌<◌}
use mathlib.Core.Path.{◌≡◌, refl, sym, ap, subst, ◌∙◌}
use mathlib.Core.Bool.{Bool, true, false, not}
use mathlib.Core.List.{List, [], ◌∷◌, ◌++◌, append_assoc}
use native.Mathlib.Omega.{arith}
use borrow.Author.Tests.{eq-eqb, ne_eqb, eqb-false, lt-ltb}
use lib.Dec.{eqb}
use lib.ListN.{length, take, drop, get_or, set, length-append, length-set}
use lib.Seq.{split_at, get_or-append_seam, set-append_seam, set_split}
use Rattle.sound.specs.Placed.{Each}
use Rattle.bundle.specs.Bundle.{word_of, flock_of, delivered_of, kind_of, length_of, is_flock, Entry, entry_octets, entries_octets, pick_if, is_of, of_flock}
use Rattle.flock_table.specs.Table.{picked, is_delivered, is_undelivered, message_octets, record_of, totals, table_of, none, minus}
use Rattle.flock_table.specs.Tabulate.{tabulate}
use Rattle.flock_table.specs.declared.Flock.{Flock}
use Rattle.flock_table.proofs.Tabulated.{tabulate-at, tabulate-set}
use Rattle.flock_table.proofs.Counted.{flock-least, Short, Small, both, of-append, record-append, minus-exact, table_at, totals-small}
use Rattle.bundle_edit.specs.Changes.{table_numbers, record_at, changed, changed_from, changes_by, takes_off}
use Rattle.bundle_edit.specs.Delivery.{one_undelivered}
use Rattle.bundle_edit.specs.declared.Changes.{Changes}
use Rattle.bundle_edit.proofs.Counting.{numbers-at}
use Rattle.bundle_laws.specs.Reading.{InForm}
use Rattle.bundle_laws.specs.Sweeping.{delivered_entry}

-- ---- lists of entries

pub octets-append : (es fs : List Entry) → entries_octets (es ++ fs) ≡ entries_octets es ++ entries_octets fs
unfolding entries_octets
octets-append [] fs = refl
octets-append (e ∷ es) fs =
    ap (λ (l : List ℕ). entry_octets e ++ l) (octets-append es fs) ∙ sym (append_assoc (entry_octets e) (entries_octets es) (entries_octets fs))

each_left : (P : Entry → Type 0) (es fs : List Entry) → Each P (es ++ fs) → Each P es
each_left P [] fs h = tt
each_left P (e ∷ es) fs h = (h.0, each_left P es fs h.1)

each_right : (P : Entry → Type 0) (es fs : List Entry) → Each P (es ++ fs) → Each P fs
each_right P [] fs h = h
each_right P (e ∷ es) fs h = each_right P es fs h.1

each_both : (P : Entry → Type 0) (es fs : List Entry) → Each P es → Each P fs → Each P (es ++ fs)
each_both P [] fs h g = g
each_both P (e ∷ es) fs h g = (h.0, each_both P es fs h.1 g)

pub good-at : (es : List Entry) (i : ℕ) → i < length es → (d : Entry) → Each InForm es → InForm (get_or es i d)
good-at [] i l d h = absurd (omega (arith, l))
good-at (e ∷ es) zero l d h = h.0
good-at (e ∷ es) (suc i) l d h = good-at es i (omega (arith, l)) d h.1

-- ---- one octet of a head

-- the first octet of a part in the middle is one more
mark-octet : (a h t r : List ℕ) → 0 < length h
    → set (a ++ ((h ++ t) ++ r)) (length a) (get_or (a ++ ((h ++ t) ++ r)) (length a) 0 + 1) ≡ a ++ ((set h 0 (get_or h 0 0 + 1) ++ t) ++ r)
mark-octet a [] t r l = absurd (omega (arith, l))
mark-octet a (x ∷ h) t r l =
    ap (λ (v : ℕ). set (a ++ (x ∷ ((h ++ t) ++ r))) (length a) (v + 1)) (get_or-append_seam a x ((h ++ t) ++ r) 0) ∙ set-append_seam a x ((h ++ t) ++ r) (x + 1)

-- a head whose first octet is one more
head-word : (h : List ℕ) → 0 < length h → word_of (set h 0 (get_or h 0 0 + 1)) ≡ word_of h + 16777216
unfolding word_of
head-word [] l = absurd (omega (arith, l))
head-word (x ∷ h) l = omega arith

module _ (e : Entry) (g : InForm e) (u : is_delivered e ≡ false) where
  even : word_of e.head / 16777216 % 2 ≡ 0
  even = let k = eqb-false (delivered_of (word_of e.head)) 1 u in omega (arith, k)

  word : word_of (delivered_entry e).head ≡ word_of e.head + 16777216
  word = head-word e.head (omega (arith, g.head))

  pub marked-flock : flock_of (word_of (delivered_entry e).head) ≡ flock_of (word_of e.head)
  marked-flock = rw word (omega (arith, even))

  pub marked-delivered : is_delivered (delivered_entry e) ≡ true
  marked-delivered = rw word (eq-eqb ((word_of e.head + 16777216) / 16777216 % 2) 1 (omega (arith, even)))

  pub marked-kind : kind_of (word_of (delivered_entry e).head) ≡ kind_of (word_of e.head)
  marked-kind = rw word (omega arith)

  marked-length : length_of (word_of (delivered_entry e).head) ≡ length_of (word_of e.head)
  marked-length = rw word (omega arith)

  pub marked-good : InForm (delivered_entry e)
  marked-good =
      record {
        head = length-set e.head 0 (get_or e.head 0 0 + 1) ∙ g.head;
        flock = rw marked-flock g.flock;
        size = g.size ∙ sym marked-length;
        small = g.small;
        message = g.message;
        read = g.read;
        kind = marked-kind ∙ g.kind;
        form = g.form;
      }

flock-is : {a b c a' b' c' : ℕ} → a ≡ a' → b ≡ b' → c ≡ c'
    → ◌≡◌ {A = Flock} (record { entries = a; bytes = b; undelivered = c }) (record { entries = a'; bytes = b'; undelivered = c' })
flock-is p q r = rw (p, q, r)

-- an entry among others that loses its mark of being undelivered
shifted : (r s : Flock) (n : ℕ) → both (both r (both (record { entries = 1; bytes = n; undelivered = 0 }) s)) one_undelivered ≡ both r (both (record { entries = 1; bytes = n; undelivered = 1 }) s)
shifted r s n = flock-is (omega arith) (omega arith) (omega arith)

-- ---- an entry among others is marked

module _ (es : List Entry) (i : ℕ) (l : i < length es) (d : Entry) (g : Each InForm es) (u : is_delivered (get_or es i d) ≡ false) where
  before : es ≡ take i es ++ (get_or es i d ∷ drop (suc i) es)
  before = split_at es i d l

  pub after-mark : set es i (delivered_entry (get_or es i d)) ≡ take i es ++ (delivered_entry (get_or es i d) ∷ drop (suc i) es)
  after-mark = set_split es i (delivered_entry (get_or es i d)) l

  goods : Each InForm (take i es ++ (get_or es i d ∷ drop (suc i) es))
  goods = subst (λ (x : List Entry). Each InForm x) before g

  rights : Each InForm (get_or es i d ∷ drop (suc i) es)
  rights = each_right InForm (take i es) (get_or es i d ∷ drop (suc i) es) goods

  pub mark-good : Each InForm (set es i (delivered_entry (get_or es i d)))
  mark-good =
      rw after-mark
      (each_both InForm (take i es) (delivered_entry (get_or es i d) ∷ drop (suc i) es) (each_left InForm (take i es) (get_or es i d ∷ drop (suc i) es) goods)
      (marked-good (get_or es i d) rights.0 u, rights.1))

  octets : entries_octets es ≡ entries_octets (take i es) ++ (entry_octets (get_or es i d) ++ entries_octets (drop (suc i) es))
  unfolding entries_octets
  octets = ap entries_octets before ∙ octets-append (take i es) (get_or es i d ∷ drop (suc i) es)

  pub mark-octets : set (entries_octets es) (length (entries_octets (take i es))) (get_or (entries_octets es) (length (entries_octets (take i es))) 0 + 1)
      ≡ entries_octets (set es i (delivered_entry (get_or es i d)))
  unfolding entries_octets
  mark-octets =
      ap (λ (x : List ℕ). set x (length (entries_octets (take i es))) (get_or x (length (entries_octets (take i es))) 0 + 1)) octets
      ∙ mark-octet (entries_octets (take i es)) (get_or es i d).head (get_or es i d).text (entries_octets (drop (suc i) es)) (omega (arith, rights.0.head))
      ∙ sym (ap entries_octets after-mark ∙ octets-append (take i es) (delivered_entry (get_or es i d) ∷ drop (suc i) es))

  -- the place is within the octets
  pub mark-within : length (entries_octets (take i es)) < length (entries_octets es)
  mark-within =
      let a = length-append (entries_octets (take i es)) (entry_octets (get_or es i d) ++ entries_octets (drop (suc i) es)) in
      let b = length-append (entry_octets (get_or es i d)) (entries_octets (drop (suc i) es)) in
      let c = length-append (get_or es i d).head (get_or es i d).text in
      let q = ap (λ (x : List ℕ). length x) octets in
      omega (arith, a, b, c, q, rights.0.head)

  -- ---- its record

  one-before : record_of (get_or es i d ∷ []) ≡ record { entries = 1; bytes = length (get_or es i d).text + 0; undelivered = 1 }
  unfolding picked message_octets
  one-before = rw u

  one-after : record_of (delivered_entry (get_or es i d) ∷ []) ≡ record { entries = 1; bytes = length (get_or es i d).text + 0; undelivered = 0 }
  unfolding picked message_octets
  one-after = rw (marked-delivered (get_or es i d) rights.0 u)

  abbrev f : ℕ
  f = flock_of (word_of (get_or es i d).head)

  of_one : (x : Entry) (k : ℕ) → is_of k x ≡ true → of_flock k (x ∷ []) ≡ x ∷ []
  unfolding of_flock
  of_one x k h = rw h

  of_none : (x : Entry) (k : ℕ) → is_of k x ≡ false → of_flock k (x ∷ []) ≡ []
  unfolding of_flock
  of_none x k h = rw h

  parts : (x : Entry) (k : ℕ) → totals k (take i es ++ (x ∷ drop (suc i) es)) ≡ both (totals k (take i es)) (both (totals k (x ∷ [])) (totals k (drop (suc i) es)))
  parts x k =
      ap record_of (of-append k (take i es) (x ∷ drop (suc i) es) ∙ ap (λ (q : List Entry). of_flock k (take i es) ++ q) (of-append k (x ∷ []) (drop (suc i) es)))
      ∙ record-append (of_flock k (take i es)) (of_flock k (x ∷ []) ++ of_flock k (drop (suc i) es))
      ∙ ap (both (totals k (take i es))) (record-append (of_flock k (x ∷ [])) (of_flock k (drop (suc i) es)))

  total-before : (k : ℕ) → totals k es ≡ both (totals k (take i es)) (both (totals k (get_or es i d ∷ [])) (totals k (drop (suc i) es)))
  total-before k = ap (totals k) before ∙ parts (get_or es i d) k

  total-after : (k : ℕ) → totals k (set es i (delivered_entry (get_or es i d))) ≡ both (totals k (take i es)) (both (totals k (delivered_entry (get_or es i d) ∷ [])) (totals k (drop (suc i) es)))
  total-after k = ap (totals k) after-mark ∙ parts (delivered_entry (get_or es i d)) k

  same_of : (k : ℕ) → is_of k (delivered_entry (get_or es i d)) ≡ is_of k (get_or es i d)
  same_of k = ap (λ (q : ℕ). eqb q k) (marked-flock (get_or es i d) rights.0 u)

  pub mark-other : (k : ℕ) → is_of k (get_or es i d) ≡ false → totals k (set es i (delivered_entry (get_or es i d))) ≡ totals k es
  mark-other k h =
      total-after k ∙ ap (λ (q : List Entry). both (totals k (take i es)) (both (record_of q) (totals k (drop (suc i) es))))
      (of_none (delivered_entry (get_or es i d)) k (same_of k ∙ h) ∙ sym (of_none (get_or es i d) k h))
      ∙ sym (total-before k)

  pub mark-own : both (totals f (set es i (delivered_entry (get_or es i d)))) one_undelivered ≡ totals f es
  mark-own =
      let h : is_of f (get_or es i d) ≡ true = eq-eqb f f refl in
      let p : totals f (delivered_entry (get_or es i d) ∷ []) ≡ record { entries = 1; bytes = length (get_or es i d).text + 0; undelivered = 0 } =
      ap record_of (of_one (delivered_entry (get_or es i d)) f (same_of f ∙ h)) ∙ one-after in
      let q : totals f (get_or es i d ∷ []) ≡ record { entries = 1; bytes = length (get_or es i d).text + 0; undelivered = 1 } =
      ap record_of (of_one (get_or es i d) f h) ∙ one-before in
      ap (λ (r : Flock). both r one_undelivered) (total-after f ∙ ap (λ (r : Flock). both (totals f (take i es)) (both r (totals f (drop (suc i) es)))) p)
      ∙ shifted (totals f (take i es)) (totals f (drop (suc i) es)) (length (get_or es i d).text + 0)
      ∙ sym (total-before f ∙ ap (λ (r : Flock). both (totals f (take i es)) (both r (totals f (drop (suc i) es)))) q)

  hf : is_flock (flock_of (word_of (get_or es i d).head)) ≡ true
  hf = rights.0.flock

  -- the table with one undelivered entry less
  pub mark-table : Each Short es → length es ≤ 256
      → set (table_of es) (f - 1) (minus (get_or (table_of es) (f - 1) none) one_undelivered) ≡ table_of (set es i (delivered_entry (get_or es i d)))
  unfolding table_of
  mark-table s few =
      let b = flock-least f hf in
      let k : 1 + (f - 1) ≡ f = omega (arith, b.0) in
      let t = totals f (set es i (delivered_entry (get_or es i d))) in
      let m : minus (totals f es) one_undelivered ≡ t =
      ap (λ (r : Flock). minus r one_undelivered) (sym mark-own) ∙ minus-exact t one_undelivered (rw mark-own (totals-small f es s few)) in
      ap (λ (r : Flock). set (table_of es) (f - 1) r)
      (ap (λ (r : Flock). minus r one_undelivered) (table_at es f hf) ∙ m ∙ ap (λ (q : ℕ). totals q (set es i (delivered_entry (get_or es i d)))) (sym k))
      ∙ tabulate-set 127 1 (f - 1) (λ (q : ℕ). totals q es) (λ (q : ℕ). totals q (set es i (delivered_entry (get_or es i d)))) (omega (arith, b.0, b.1))
      (λ j no. sym (mark-other j (ne_eqb _ _ (λ q. no (sym q ∙ sym k)))))

-- ---- delivered and undelivered entries

pub octets-parted : (es : List Entry) → length (entries_octets es) ≡ length (entries_octets (picked is_undelivered es)) + length (entries_octets (picked is_delivered es))
unfolding entries_octets picked
octets-parted [] = refl
octets-parted (e ∷ es) =
    length-append (entry_octets e) (entries_octets es) ∙ ap (λ (n : ℕ). length (entry_octets e) + n) (octets-parted es) ∙ go (is_delivered e)
  where
    go : (b : Bool)
        → length (entry_octets e) + (length (entries_octets (picked is_undelivered es)) + length (entries_octets (picked is_delivered es)))
        ≡ length (entries_octets (pick_if (not b) e (picked is_undelivered es))) + length (entries_octets (pick_if b e (picked is_delivered es)))
    go true = let a = length-append (entry_octets e) (entries_octets (picked is_delivered es)) in omega (arith, a)
    go false = let a = length-append (entry_octets e) (entries_octets (picked is_undelivered es)) in omega (arith, a)

length-parted : (es : List Entry) → length es ≡ length (picked is_undelivered es) + length (picked is_delivered es)
unfolding picked
length-parted [] = refl
length-parted (e ∷ es) = ap suc (length-parted es) ∙ go (is_delivered e)
  where
    go : (b : Bool)
        → suc (length (picked is_undelivered es) + length (picked is_delivered es))
        ≡ length (pick_if (not b) e (picked is_undelivered es)) + length (pick_if b e (picked is_delivered es))
    go true = omega arith
    go false = omega arith

texts-parted : (es : List Entry) → message_octets es ≡ message_octets (picked is_undelivered es) + message_octets (picked is_delivered es)
unfolding picked message_octets
texts-parted [] = refl
texts-parted (e ∷ es) = ap (λ (n : ℕ). length e.text + n) (texts-parted es) ∙ go (is_delivered e)
  where
    go : (b : Bool)
        → length e.text + (message_octets (picked is_undelivered es) + message_octets (picked is_delivered es))
        ≡ message_octets (pick_if (not b) e (picked is_undelivered es)) + message_octets (pick_if b e (picked is_delivered es))
    go true = omega arith
    go false = omega arith

-- the undelivered ones of the undelivered, and of the delivered
still : (es : List Entry) → picked is_undelivered (picked is_undelivered es) ≡ picked is_undelivered es
unfolding picked
still [] = refl
still (e ∷ es) = go (is_delivered e) refl (still es)
  where
    go : (b : Bool) → is_delivered e ≡ b → picked is_undelivered (picked is_undelivered es) ≡ picked is_undelivered es
        → picked is_undelivered (pick_if (not b) e (picked is_undelivered es)) ≡ pick_if (not b) e (picked is_undelivered es)
    go true h i = i
    go false h i = rw h (ap (λ (l : List Entry). e ∷ l) i)

none_left : (es : List Entry) → picked is_undelivered (picked is_delivered es) ≡ []
unfolding picked
none_left [] = refl
none_left (e ∷ es) = go (is_delivered e) refl (none_left es)
  where
    go : (b : Bool) → is_delivered e ≡ b → picked is_undelivered (picked is_delivered es) ≡ [] → picked is_undelivered (pick_if b e (picked is_delivered es)) ≡ []
    go true h i = rw h i
    go false h i = i

record-parted : (es : List Entry) → record_of es ≡ both (record_of (picked is_undelivered es)) (record_of (picked is_delivered es))
record-parted es =
    let u : length (picked is_undelivered es) ≡ length (picked is_undelivered (picked is_undelivered es)) + length (picked is_undelivered (picked is_delivered es)) =
    sym (ap (λ (l : List Entry). length l + length (picked is_undelivered (picked is_delivered es))) (still es)
    ∙ ap (λ (l : List Entry). length (picked is_undelivered es) + length l) (none_left es) ∙ omega arith) in
    flock-is (length-parted es) (texts-parted es) u

-- a flock's entries that pass a test
of-passing : (p : Entry → Bool) (f : ℕ) (es : List Entry) → of_flock f (picked p es) ≡ picked p (of_flock f es)
unfolding picked of_flock
of-passing p f [] = refl
of-passing p f (e ∷ es) = go (p e) (is_of f e) refl refl (of-passing p f es)
  where
    go : (a c : Bool) → p e ≡ a → is_of f e ≡ c → of_flock f (picked p es) ≡ picked p (of_flock f es)
        → of_flock f (pick_if a e (picked p es)) ≡ picked p (pick_if c e (of_flock f es))
    go true true ha hc i = rw (ha, hc) (ap (λ (l : List Entry). e ∷ l) i)
    go true false ha hc i = rw hc i
    go false true ha hc i = rw ha i
    go false false ha hc i = i

pub totals-parted : (f : ℕ) (es : List Entry) → totals f es ≡ both (totals f (picked is_undelivered es)) (totals f (picked is_delivered es))
totals-parted f es =
    record-parted (of_flock f es)
    ∙ ap (λ (l : List Entry). both (record_of l) (record_of (picked is_delivered (of_flock f es)))) (sym (of-passing is_undelivered f es))
    ∙ ap (λ (l : List Entry). both (totals f (picked is_undelivered es)) (record_of l)) (sym (of-passing is_delivered f es))

-- ---- the table of a sweep

off-record : (used : ℕ) (es : List Entry) (j : ℕ) → Each Short es → length es ≤ 256 → j < 127
    → changed (changes_by takes_off used (picked is_delivered es)) j (totals (1 + j) es) ≡ totals (1 + j) (picked is_undelivered es)
unfolding changed table_of
off-record used es j s few l =
    let d = picked is_delivered es in
    let f = 1 + j in
    let q = totals-parted f es in
    let t : record_at (table_numbers (table_of d)) j ≡ totals f d = numbers-at (table_of d) j ∙ tabulate-at 127 1 j (λ (g : ℕ). totals g d) none l in
    rw (lt-ltb j 127 l)
    (ap (λ (r : Flock). minus (totals f es) r) t ∙ ap (λ (r : Flock). minus r (totals f d)) q
    ∙ minus-exact (totals f (picked is_undelivered es)) (totals f d) (subst Small q (totals-small f es s few)))

changed-table : (c : Changes) (g h : ℕ → Flock) (n k : ℕ) → ((j : ℕ) → j < 127 → changed c j (g (1 + j)) ≡ h (1 + j)) → k + n ≤ 127
    → changed_from c k (tabulate n (1 + k) g) ≡ tabulate n (1 + k) h
unfolding tabulate changed_from
changed-table c g h zero k e l = refl
changed-table c g h (suc n) k e l =
    let q : 1 + k + 1 ≡ 1 + (k + 1) = omega arith in
    ap (λ (x : Flock). x ∷ changed_from c (k + 1) (tabulate n (1 + k + 1) g)) (e k (omega (arith, l)))
    ∙ ap (λ (x : List Flock). h (1 + k) ∷ x)
    (ap (λ (i : ℕ). changed_from c (k + 1) (tabulate n i g)) q ∙ changed-table c g h n (k + 1) e (omega (arith, l)) ∙ ap (λ (i : ℕ). tabulate n i h) (sym q))

pub table-swept : (used : ℕ) (es : List Entry) → Each Short es → length es ≤ 256
    → changed_from (changes_by takes_off used (picked is_delivered es)) 0 (table_of es) ≡ table_of (picked is_undelivered es)
unfolding table_of
table-swept used es s few =
    changed-table (changes_by takes_off used (picked is_delivered es)) (λ (f : ℕ). totals f es) (λ (f : ℕ). totals f (picked is_undelivered es)) 127 0
    (λ j l. off-record used es j s few l) (omega arith)
