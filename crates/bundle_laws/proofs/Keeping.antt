-- The claims on the table: what each call does to a true table, one record at a time or all at once.
use Prim.Native.Nat.{ℕ, ◌+◌, ◌-◌, ◌≤◌, ◌<◌}
use mathlib.Core.Path.{◌≡◌, refl, sym, ap, subst, ◌∙◌}
use mathlib.Core.Bool.{Bool, true, false, cond}
use mathlib.Core.List.{List, [], ◌∷◌, ◌++◌}
use native.Mathlib.Omega.{arith}
use borrow.Author.Tests.{eq-eqb, ne_eqb, le-leb, lt-ltb, ltb-true}
use lib.Dec.{leb, ltb, eqb}
use lib.ListN.{length, take, drop, get_or, set, length-append, length-set}
use lib.Seq.{get_or-set_same, get_or-take, take-set-lt, take_at, length-take-le}
use Rattle.octets.proofs.Kit.{no_true, either}
use Rattle.sound.specs.Placed.{Each}
use Rattle.output.specs.Splice.{splice}
use Rattle.output.specs.Reply.{Reply, writes, refuses, lent_after_at, Written}
use Rattle.output.proofs.Laws.{splice-length, splice-is}
use Rattle.bundle.specs.Bundle.{word_of, flock_of, delivered_of, is_flock, Entry, entries_octets, Walk, walk}
use Rattle.bundle.proofs.Walks.{few-entries}
use Rattle.flock_table.specs.Table.{picked, is_delivered, is_undelivered, message_octets, record_of, totals, table_of, none, plus, minus, slot_of, totals_of, totals_answer}
use Rattle.flock_table.specs.Tabulate.{tabulate}
use Rattle.flock_table.specs.declared.Flock.{Flock}
use Rattle.flock_table.proofs.Tabulated.{tabulate-at}
use Rattle.flock_table.proofs.Counted.{flock-least, Short, both, picked-few, picked-each, table-length, table_at, totals-more, totals-plus, table-plus}
use Rattle.bundle_edit.specs.Append.{append_reply, append_plan, appended, plan_of, long_in, new_record, entered}
use Rattle.bundle.specs.Bundle.{read_message}
use Rattle.bundle_edit.specs.Changes.{changed, changed_from, refused_changes, changes_by, rebuild_changes, leaves, puts, takes_off}
use Rattle.bundle_edit.specs.Delivery.{none_there, entry_number, entry_place, idle_plan, mark_plan_of, marked_of, mark_plan, marked, one_undelivered, lessened, kept_octets, sweep_changes, swept}
use Rattle.bundle_edit.specs.declared.Changes.{Changes}
use Rattle.bundle_edit.proofs.Counting.{numbers-at}
use Rattle.bundle_edit.proofs.Sweeping.{Accepts, on-good}
use Rattle.bundle_laws.specs.Reading.{InForm, IsBundle}
use Rattle.bundle_laws.specs.Appending.{append_answer, Added}
use Rattle.bundle_laws.specs.Keeping.{Night, entries_in, IsTrue, Call, appends, marks, sweeps, plan_in, after, after_all, Keeping}
use Rattle.bundle_laws.proofs.Reading.{front, octets-of, back}
use Rattle.bundle_laws.proofs.Appending.{appending}
use Rattle.bundle_laws.proofs.Delivering.{mark-good, mark-octets, mark-within, mark-table, octets-parted, table-swept}
use Rattle.bundle_laws.specs.Sweeping.{delivered_entry}
use Rattle.std.proofs.Common.{Ok, Err, is_some}

-- ---- all records at once

-- each record as a function of its flock alone
pub changed-all : (c : Changes) (h : ℕ → Flock) (k : ℕ) (t : List Flock) → ((j : ℕ) (r : Flock) → j < 127 → changed c j r ≡ h (1 + j)) → k + length t ≤ 127
    → changed_from c k t ≡ tabulate (length t) (1 + k) h
unfolding changed_from tabulate
changed-all c h k [] e l = refl
changed-all c h k (r ∷ t) e l =
    let n : 1 + (k + 1) ≡ 1 + k + 1 = omega arith in
    ap (λ (x : Flock). x ∷ changed_from c (k + 1) t) (e k r (omega (arith, l)))
    ∙ ap (λ (x : List Flock). h (1 + k) ∷ x) (changed-all c h (k + 1) t e (omega (arith, l)) ∙ ap (λ (i : ℕ). tabulate (length t) i h) n)

-- no record, where nothing is done
pub changed-none : (c : Changes) (k : ℕ) (t : List Flock) → c.kind ≡ leaves → changed_from c k t ≡ t
unfolding changed_from changed
changed-none c k [] e = refl
changed-none c k (r ∷ t) e =
    ap (λ (x : Flock). x ∷ changed_from c (k + 1) t) (rw e (either (λ (x : Flock). x ≡ r) (ltb k 127) r r (λ _. refl) (λ _. refl)))
    ∙ ap (λ (x : List Flock). r ∷ x) (changed-none c (k + 1) t e)

put_record : (used : ℕ) (es : List Entry) (j : ℕ) (r : Flock) → j < 127 → changed (changes_by puts used es) j r ≡ totals (1 + j) es
unfolding changed table_of
put_record used es j r l =
    rw (lt-ltb j 127 l) (numbers-at (table_of es) j ∙ tabulate-at 127 1 j (λ (f : ℕ). totals f es) none l)

pub table-put : (used : ℕ) (es : List Entry) (t : List Flock) → length t ≡ 127 → changed_from (changes_by puts used es) 0 t ≡ table_of es
unfolding table_of
table-put used es t l =
    changed-all (changes_by puts used es) (λ (f : ℕ). totals f es) 0 t (put_record used es) (omega (arith, l))
    ∙ ap (λ (n : ℕ). tabulate n 1 (λ (f : ℕ). totals f es)) l

-- ---- an empty bundle, and a rebuild

begins : (b : List ℕ) → IsTrue (record { buffer = b; used = 0; table = table_of [] })
unfolding entries_octets
begins b = let z = back [] tt (omega arith) in record { within = omega arith; bundle = ap (λ (w : Walk). w.stop) z; table = ap (λ (w : Walk). table_of w.entries) (sym z) }

rebuilt : (b : List ℕ) (used : ℕ) (t : List Flock) → used ≤ length b → (walk (take used b)).stop ≡ 0 → length t ≡ 127
    → IsTrue (record { buffer = b; used = used; table = changed_from (rebuild_changes (length t) (take used b)) 0 t })
unfolding rebuild_changes
rebuilt b used t u g l =
    record {
      within = u;
      bundle = g;
      table = rw (eq-eqb (length t) 127 l, eq-eqb (walk (take used b)).stop 0 g) (table-put (length (take used b)) (walk (take used b)).entries t l);
    }

unbuilt : (n : ℕ) (s : List ℕ) (t : List Flock) → ((rebuild_changes n s).number ≡ 0 → ⊥) → changed_from (rebuild_changes n s) 0 t ≡ t
unfolding rebuild_changes
unbuilt n s t =
    let Q : Changes → Type 0 = λ (c : Changes). (c.number ≡ 0 → ⊥) → changed_from c 0 t ≡ t in
    either Q (eqb n 127) _ _
    (λ _.
    either Q (eqb (walk s).stop 0) (changes_by puts (length s) (walk s).entries) (refused_changes (length s) (walk s).stop (walk s).end) (λ _ h. absurd (h refl))
    (λ _ _. changed-none (refused_changes (length s) (walk s).stop (walk s).end) 0 t refl))
    (λ _ _. changed-none (refused_changes (length s) 16 0) 0 t refl)

-- ---- an append

short-of : (es : List Entry) → Each InForm es → Each Short es
short-of [] h = tt
short-of (e ∷ es) h = (h.0.small, short-of es h.1)

pub shorts : (s : List ℕ) → Each Short (walk s).entries
shorts s = short-of (walk s).entries (front s).good

new-record : (e : Entry) → delivered_of (word_of e.head) ≡ 0 → record_of (e ∷ []) ≡ new_record (length e.text)
unfolding picked message_octets
new-record e d =
    let f : eqb (delivered_of (word_of e.head)) 1 ≡ false = ne_eqb (delivered_of (word_of e.head)) 1 (λ q. omega (arith, d, q)) in
    let b : length e.text + 0 ≡ length e.text = omega arith in
    rw (f, b)

after-length : (n : ℕ) (b : List ℕ) (used f : ℕ) (m : List ℕ) → length (appended n b used f m) ≡ length b
unfolding appended lent_after_at
after-length n b used f m = go (append_reply n b used f m)
  where
    go : (y : Reply) → length (lent_after_at y used b) ≡ length b
    go (writes l) =
        either (λ (o : List ℕ). length o ≡ length b) (leb (used + length l) (length b)) (splice b used l) b (λ _. splice-length b used l) (λ _. refl)
    go (refuses k p) = refl

-- an accepted append of k octets to a true table
module _ (x : Night) (f : ℕ) (m : List ℕ) (t : IsTrue x) (k : ℕ) (a : Added (length x.table) x.buffer x.used f m k) where
  es : List Entry
  es = entries_in x

  same : entries_in x ≡ a.before
  same = ap (λ (w : Walk). w.entries) a.was

  few : length a.before < 256
  few =
      let w = take (x.used + k) (appended (length x.table) x.buffer x.used f m) in
      let l = few-entries w in
      let q = rw a.is at l in
      omega (arith, q, length-append a.before (a.entry ∷ []))

  hf : is_flock f ≡ true
  hf = subst (λ (g : ℕ). is_flock g ≡ true) a.flock a.good.flock

  size : record_of (a.entry ∷ []) ≡ new_record (k - 4)
  size = let n : k - 4 ≡ length a.entry.text = omega (arith, a.size) in new-record a.entry a.undelivered ∙ ap new_record (sym n)

  pub table-new : set x.table (f - 1) (plus (get_or x.table (f - 1) none) (new_record (k - 4))) ≡ table_of (a.before ++ a.entry ∷ [])
  table-new =
      rw (t.table, same, ← size)
      (table-plus a.before a.entry f a.flock hf (rw (← same) (shorts (take x.used x.buffer))) a.good.small few)

  pub record-new : plus (get_or x.table (f - 1) none) (new_record (k - 4)) ≡ both (get_or x.table (f - 1) none) (new_record (k - 4))
  record-new =
      let h : Each Short a.before = rw (← same) (shorts (take x.used x.buffer)) in
      let q = totals-plus a.before a.entry f a.flock hf h a.good.small few ∙ totals-more a.before a.entry f (eq-eqb _ _ a.flock) in
      rw (t.table, same, table_at a.before f hf) (subst (λ (r : Flock). plus (totals f a.before) r ≡ both (totals f a.before) r) size q)

-- by what the append answers
abbrev left_by : Night → ℕ → List ℕ → Written → Night
left_by x f m w =
    record { buffer = appended (length x.table) x.buffer x.used f m; used = (plan_of x.used f (long_in (read_message m)) w).used; table = entered (plan_of x.used f (long_in (read_message m)) w) x.table }

kept_by : (x : Night) (f : ℕ) (m : List ℕ) (w : Written) → IsTrue x → append_answer (length x.table) x.buffer x.used f m ≡ w → IsTrue (left_by x f m w)
kept_by x f m (Ok k) t e =
    let a = appending.adds (length x.table) x.buffer x.used f m k e in
    let l : length (appended (length x.table) x.buffer x.used f m) ≡ length x.buffer = after-length (length x.table) x.buffer x.used f m in
    record {
      within = omega (arith, a.within, l);
      bundle = ap (λ (w : Walk). w.stop) a.is;
      table = table-new x f m t k a ∙ ap (λ (w : Walk). table_of w.entries) (sym a.is);
    }
kept_by x f m (Err r) t e =
    let b = appending.refused (length x.table) x.buffer x.used f m r.number r.place e in
    rw b t

-- ---- a mark and a sweep

-- a true table is one of 127 records, and its bundle is accepted
pub accepts : (x : Night) → IsTrue x → Accepts (length x.table) x.buffer x.used (length (entries_in x))
accepts x t =
    record {
      table = eq-eqb (length x.table) 127 (ap (λ (l : List Flock). length l) t.table ∙ table-length (entries_in x));
      within = le-leb x.used (length x.buffer) t.within;
      bundle = eq-eqb (walk (take x.used x.buffer)).stop 0 t.bundle;
      counted = refl;
    }

-- what a mark leaves, by the entries alone
abbrev pub marked_by : Night → ℕ → List Entry → Night
marked_by x i es = record { buffer = marked_of x.buffer i es; used = (mark_plan_of x.used i es).used; table = lessened (mark_plan_of x.used i es) x.table }

pub after-mark-is : (x : Night) (i count : ℕ) → Accepts (length x.table) x.buffer x.used count → after (marks i) x ≡ marked_by x i (entries_in x)
unfolding mark_plan marked
after-mark-is x i count a =
    let n = length x.table in
    rw (
      ← (on-good n x.buffer x.used count a (idle_plan x.used) (mark_plan_of x.used i)),
      ← (on-good n x.buffer x.used count a (λ _ _. x.buffer) (marked_of x.buffer i)),
    )

-- and a sweep
abbrev pub swept_by : Night → List Entry → Night
swept_by x es =
    record {
      buffer = splice x.buffer 0 (kept_octets es);
      used = length (kept_octets es);
      table = changed_from (changes_by takes_off (length (kept_octets es)) (picked is_delivered es)) 0 x.table;
    }

pub after-sweep-is : (x : Night) (count : ℕ) → Accepts (length x.table) x.buffer x.used count → after sweeps x ≡ swept_by x (entries_in x)
unfolding sweep_changes swept
after-sweep-is x count a =
    let n = length x.table in
    rw (
      ← (on-good n x.buffer x.used count a (refused_changes x.used) (λ es. changes_by takes_off (length (kept_octets es)) (picked is_delivered es))),
      ← (on-good n x.buffer x.used count a (λ _ _. x.buffer) (λ es. splice x.buffer 0 (kept_octets es))),
    )

-- the octets of a true bundle
pub octets-in : (x : Night) → IsTrue x → take x.used x.buffer ≡ entries_octets (entries_in x)
octets-in x t = octets-of (take x.used x.buffer) t.bundle

pub used-is : (x : Night) → IsTrue x → x.used ≡ length (entries_octets (entries_in x))
used-is x t = sym (length-take-le x.used x.buffer t.within) ∙ ap (λ (l : List ℕ). length l) (octets-in x t)

-- a mark of an undelivered entry
module _ (x : Night) (t : IsTrue x) (i : ℕ) (l : i < length (entries_in x)) (u : is_delivered (entry_number (entries_in x) i) ≡ false) where
  goods-in : Each InForm (entries_in x)
  goods-in = (front (take x.used x.buffer)).good

  at : ℕ
  at = entry_place (entries_in x) i

  abbrev new : List Entry
  new = set (entries_in x) i (delivered_entry (entry_number (entries_in x) i))

  pub mark-is : after (marks i) x
      ≡ record {
        buffer = set x.buffer (entry_place (entries_in x) i) (get_or x.buffer (entry_place (entries_in x) i) 0 + 1);
        used = x.used;
        table =
            set x.table (flock_of (word_of (entry_number (entries_in x) i).head) - 1)
            (minus (get_or x.table (flock_of (word_of (entry_number (entries_in x) i).head) - 1) none) one_undelivered);
      }
  mark-is = after-mark-is x i (length (entries_in x)) (accepts x t) ∙ rw (lt-ltb i (length (entries_in x)) l, u)

  place-within : entry_place (entries_in x) i < x.used
  place-within = omega (arith, used-is x t, mark-within (entries_in x) i l none_there goods-in u)

  pub mark-front : take x.used (set x.buffer (entry_place (entries_in x) i) (get_or x.buffer (entry_place (entries_in x) i) 0 + 1)) ≡ entries_octets new
  mark-front =
      let p = entry_place (entries_in x) i in
      take-set-lt x.used x.buffer p (get_or x.buffer p 0 + 1) place-within
      ∙ ap (λ (v : ℕ). set (take x.used x.buffer) p (v + 1)) (sym (get_or-take x.used x.buffer p 0 place-within))
      ∙ ap (λ (s : List ℕ). set s p (get_or s p 0 + 1)) (octets-in x t) ∙ mark-octets (entries_in x) i l none_there goods-in u

  pub mark-bundle : IsBundle (entries_octets new) new
  mark-bundle =
      back new (mark-good (entries_in x) i l none_there goods-in u)
      (omega (arith, length-set (entries_in x) i (delivered_entry (entry_number (entries_in x) i)), few-entries (take x.used x.buffer)))

  pub mark-kept : IsTrue (after (marks i) x)
  mark-kept =
      let p = entry_place (entries_in x) i in
      let v = get_or x.buffer p 0 + 1 in
      rw mark-is (record {
        within = rw (length-set x.buffer p v) t.within;
        bundle = ap (λ (s : List ℕ). (walk s).stop) mark-front ∙ ap (λ (w : Walk). w.stop) mark-bundle;
        table =
            rw t.table (mark-table (entries_in x) i l none_there goods-in u (shorts (take x.used x.buffer)) (few-entries (take x.used x.buffer)))
            ∙ sym (ap (λ (s : List ℕ). table_of (walk s).entries) mark-front ∙ ap (λ (w : Walk). table_of w.entries) mark-bundle);
      })

-- a mark that changes nothing, of a delivered entry or of none
pub mark-same : (x : Night) (i : ℕ) (es : List Entry) (a b : Bool) → ltb i (length es) ≡ a → is_delivered (entry_number es i) ≡ b → cond a b true ≡ true → marked_by x i es ≡ x
mark-same x i es true true ea eb h = rw (ea, eb)
mark-same x i es true false ea eb h = absurd (no_true h)
mark-same x i es false b ea eb h = rw ea

kept-mark : (x : Night) (i : ℕ) → IsTrue x → (a b : Bool) → ltb i (length (entries_in x)) ≡ a → is_delivered (entry_number (entries_in x) i) ≡ b → IsTrue (after (marks i) x)
kept-mark x i t true false ea eb = mark-kept x t i (ltb-true i (length (entries_in x)) ea) eb
kept-mark x i t true true ea eb =
    subst IsTrue (sym (after-mark-is x i (length (entries_in x)) (accepts x t) ∙ mark-same x i (entries_in x) true true ea eb refl)) t
kept-mark x i t false b ea eb =
    subst IsTrue (sym (after-mark-is x i (length (entries_in x)) (accepts x t) ∙ mark-same x i (entries_in x) false b ea eb refl)) t

-- a sweep
module _ (x : Night) (t : IsTrue x) where
  abbrev stay : List Entry
  stay = picked is_undelivered (entries_in x)

  pub sweep-fits : length (kept_octets (entries_in x)) ≤ length x.buffer
  sweep-fits = omega (arith, octets-parted (entries_in x), used-is x t, t.within)

  pub sweep-spliced : splice x.buffer 0 (kept_octets (entries_in x)) ≡ kept_octets (entries_in x) ++ drop (length (kept_octets (entries_in x))) x.buffer
  sweep-spliced =
      let z : 0 + length (kept_octets (entries_in x)) ≡ length (kept_octets (entries_in x)) = omega arith in
      splice-is x.buffer 0 (kept_octets (entries_in x)) (omega (arith, sweep-fits)) ∙ rw z

  pub sweep-front : take (length (kept_octets (entries_in x))) (splice x.buffer 0 (kept_octets (entries_in x))) ≡ kept_octets (entries_in x)
  sweep-front =
      ap (take (length (kept_octets (entries_in x)))) sweep-spliced
      ∙ take_at (kept_octets (entries_in x)) (drop (length (kept_octets (entries_in x))) x.buffer) (length (kept_octets (entries_in x))) refl

  pub sweep-bundle : IsBundle (kept_octets (entries_in x)) (picked is_undelivered (entries_in x))
  sweep-bundle =
      back stay (picked-each InForm is_undelivered (entries_in x) (front (take x.used x.buffer)).good)
      (omega (arith, picked-few is_undelivered (entries_in x), few-entries (take x.used x.buffer)))

  pub sweep-kept : IsTrue (after sweeps x)
  sweep-kept =
      rw (after-sweep-is x (length (entries_in x)) (accepts x t)) (record {
        within = rw (splice-length x.buffer 0 (kept_octets (entries_in x))) sweep-fits;
        bundle = ap (λ (s : List ℕ). (walk s).stop) sweep-front ∙ ap (λ (w : Walk). w.stop) sweep-bundle;
        table =
            rw t.table
            (table-swept (length (kept_octets (entries_in x))) (entries_in x) (shorts (take x.used x.buffer)) (few-entries (take x.used x.buffer)))
            ∙ sym (ap (λ (s : List ℕ). table_of (walk s).entries) sweep-front ∙ ap (λ (w : Walk). table_of w.entries) sweep-bundle);
      })

-- ---- every call

kept-one : (c : Call) (x : Night) → IsTrue x → IsTrue (after c x)
unfolding append_plan
kept-one (appends f m) x t = kept_by x f m (append_answer (length x.table) x.buffer x.used f m) t refl
kept-one (marks i) x t = kept-mark x i t (ltb i (length (entries_in x))) (is_delivered (entry_number (entries_in x) i)) refl refl
kept-one sweeps x t = sweep-kept x t

kept : (cs : List Call) (x : Night) → IsTrue x → IsTrue (after_all cs x)
unfolding after_all
kept [] x t = t
kept (c ∷ cs) x t = kept cs (after c x) (kept-one c x t)

-- ---- answers

answers : (x : Night) (f : ℕ) → IsTrue x → is_flock f ≡ true → totals_answer x.table f ≡ totals_of (totals f (entries_in x))
unfolding slot_of
answers x f t h = rw (t.table, eq-eqb (length (table_of (entries_in x))) 127 (table-length (entries_in x)), h, table_at (entries_in x) f h)

plainly-by : (x : Night) (f : ℕ) (m : List ℕ) (w : Written) → IsTrue x → append_answer (length x.table) x.buffer x.used f m ≡ w → is_some (plan_of x.used f (long_in (read_message m)) w).index ≡ true
    → get_or (left_by x f m w).table (f - 1) none ≡ both (get_or x.table (f - 1) none) (new_record (plan_of x.used f (long_in (read_message m)) w).size)
plainly-by x f m (Ok k) t e g =
    let a = appending.adds (length x.table) x.buffer x.used f m k e in
    let b = flock-least f (hf x f m t k a) in
    let n : f - 1 < length x.table = omega (arith, a.table, b.0, b.1) in
    get_or-set_same x.table (f - 1) (plus (get_or x.table (f - 1) none) (new_record (k - 4))) none n ∙ record-new x f m t k a
plainly-by x f m (Err r) t e g = absurd (no_true g)

plainly : (x : Night) (f : ℕ) (m : List ℕ) → IsTrue x → is_some (plan_in x f m).index ≡ true
    → get_or (after (appends f m) x).table (f - 1) none ≡ both (get_or x.table (f - 1) none) (new_record (plan_in x f m).size)
unfolding append_plan
plainly x f m t g = plainly-by x f m (append_answer (length x.table) x.buffer x.used f m) t refl g

unchanged-by : (x : Night) (f : ℕ) (m : List ℕ) (w : Written) → append_answer (length x.table) x.buffer x.used f m ≡ w → is_some (plan_of x.used f (long_in (read_message m)) w).index ≡ false → left_by x f m w ≡ x
unchanged-by x f m (Ok k) e g = absurd (no_true (sym g))
unchanged-by x f m (Err r) e g = rw (appending.refused (length x.table) x.buffer x.used f m r.number r.place e)

unchanged : (x : Night) (f : ℕ) (m : List ℕ) → is_some (plan_in x f m).index ≡ false → after (appends f m) x ≡ x
unfolding append_plan
unchanged x f m g = unchanged-by x f m (append_answer (length x.table) x.buffer x.used f m) refl g

pub keeping : Keeping
keeping = record { begins = begins; rebuilt = rebuilt; unbuilt = unbuilt; kept = kept; answers = answers; plainly = plainly; unchanged = unchanged }
