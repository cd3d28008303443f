-- The claims on marks and sweeps, by what they leave of the entries (Keeping) and of a table (Delivering).
use Prim.Native.Nat.{ℕ, ◌+◌, ◌-◌, ◌≤◌, ◌<◌}
use mathlib.Core.Path.{◌≡◌, refl, sym, ap, ◌∙◌}
use mathlib.Core.Bool.{Bool, true, false}
use mathlib.Core.List.{List}
use native.Mathlib.Omega.{arith}
use borrow.Author.Tests.{le-leb, lt-ltb}
use lib.Dec.{ltb}
use lib.ListN.{length, take, drop, get_or, set}
use lib.Seq.{drop_at}
use Rattle.sound.specs.Placed.{Each}
use Rattle.output.specs.Splice.{splice}
use Rattle.output.specs.Reply.{Reply, writes, written_of}
use Rattle.output.proofs.Laws.{splice-length}
use Rattle.bundle.specs.Bundle.{word_of, flock_of, is_flock, Entry, entries_octets, Walk, walk}
use Rattle.flock_table.specs.Table.{picked, is_delivered, is_undelivered, totals, none}
use Rattle.flock_table.specs.declared.Flock.{Flock}
use Rattle.flock_table.proofs.Counted.{both, picked-few, table_at}
use Rattle.bundle_edit.specs.Append.{message_entry, behind_bundle, buffer_reply, append_reply}
use Rattle.bundle_edit.specs.Changes.{changes_by, refused_changes, takes_off}
use Rattle.bundle_edit.specs.Delivery.{none_there, entry_number, idle_plan, mark_plan_of, marked_of, mark_plan, marked, kept_octets, judged_call, sweep_changes, swept}
use Rattle.bundle_edit.specs.declared.Plan.{Plan}
use Rattle.bundle_edit.specs.declared.Changes.{Changes}
use Rattle.bundle_edit.proofs.Sweeping.{Accepts, judged-good, on-good, on-bad}
use Rattle.bundle_laws.specs.Reading.{InForm}
use Rattle.bundle_laws.specs.Appending.{append_answer}
use Rattle.bundle_laws.specs.Keeping.{Night, entries_in, IsTrue, marks, sweeps, after}
use Rattle.bundle_laws.specs.Sweeping.{delivered_entry, Marked, Swept, Sweeping}
use Rattle.bundle_laws.proofs.Reading.{front}
use Rattle.bundle_laws.proofs.Appending.{passed}
use Rattle.bundle_laws.proofs.Delivering.{marked-flock, marked-delivered, marked-kind, mark-own, octets-parted, totals-parted, good-at}
use Rattle.bundle_laws.proofs.Keeping.{accepts, changed-none, marked_by, after-mark-is, swept_by, after-sweep-is, used-is, mark-is, mark-front, mark-bundle, mark-kept, mark-same, sweep-spliced, sweep-front, sweep-bundle, sweep-kept}
use Rattle.octets.specs.declared.Refused.{Refused}
use Rattle.std.proofs.Common.{Result, Ok, Err}

-- ---- a mark

module _ (x : Night) (i : ℕ) (t : IsTrue x) (l : i < length (entries_in x)) (u : is_delivered (entry_number (entries_in x) i) ≡ false) where
  goods : Each InForm (entries_in x)
  goods = (front (take x.used x.buffer)).good

  abbrev e : Entry
  e = entry_number (entries_in x) i

  good : InForm (entry_number (entries_in x) i)
  good = good-at (entries_in x) i l none_there goods

  read : entries_in (after (marks i) x) ≡ set (entries_in x) i (delivered_entry (entry_number (entries_in x) i))
  read = ap entries_in (mark-is x t i l u) ∙ ap (λ (s : List ℕ). (walk s).entries) (mark-front x t i l u) ∙ ap (λ (w : Walk). w.entries) (mark-bundle x t i l u)

  record_of : (y : Night) → IsTrue y → (f : ℕ) → is_flock f ≡ true → get_or y.table (f - 1) none ≡ totals f (entries_in y)
  record_of y h f g = ap (λ (s : List Flock). get_or s (f - 1) none) h.table ∙ table_at (entries_in y) f g

  one_less : get_or x.table (flock_of (word_of e.head) - 1) none
      ≡ both (get_or (after (marks i) x).table (flock_of (word_of e.head) - 1) none) (record { entries = 0; bytes = 0; undelivered = 1 })
  one_less =
      let f = flock_of (word_of e.head) in
      let a = record_of x t f good.flock in
      let b = record_of (after (marks i) x) (mark-kept x t i l u) f good.flock ∙ ap (totals f) read in
      a ∙ sym (mark-own (entries_in x) i l none_there goods u) ∙ ap (λ (r : Flock). both r (record { entries = 0; bytes = 0; undelivered = 1 })) (sym b)

  marked-one : Marked x i (after (marks i) x)
  marked-one =
      record {
        entry = record { marked = marked-delivered e good u; flock = marked-flock e good u; kind = marked-kind e good u; text = refl };
        entries = read;
        used = ap (λ (y : Night). y.used) (mark-is x t i l u);
        plainly = one_less ∙ zeros (get_or (after (marks i) x).table (flock_of (word_of e.head) - 1) none);
      }
    where
      zeros : (r : Flock) → both r (record { entries = 0; bytes = 0; undelivered = 1 }) ≡ record { entries = r.entries; bytes = r.bytes; undelivered = r.undelivered + 1 }
      zeros r =
          let a : r.entries + 0 ≡ r.entries = omega arith in
          let b : r.bytes + 0 ≡ r.bytes = omega arith in
          rw (a, b)

again : (x : Night) (i : ℕ) → IsTrue x → i < length (entries_in x) → is_delivered (entry_number (entries_in x) i) ≡ true
    → (after (marks i) x ≡ x) × ((mark_plan (length x.table) x.buffer x.used i).number ≡ 0)
unfolding mark_plan
again x i t l d =
    let n = length (entries_in x) in
    let h = lt-ltb i n l in
    let p = on-good (length x.table) x.buffer x.used n (accepts x t) (idle_plan x.used) (mark_plan_of x.used i) in
    (after-mark-is x i n (accepts x t) ∙ mark-same x i (entries_in x) true true h d refl, ap (λ (q : Plan). q.number) (sym p) ∙ rw (h, d))

-- ---- a sweep

-- an append to an accepted bundle that has not 256 entries is judged by its message alone
reply-is : (y : Night) (f : ℕ) (m : List ℕ) → Accepts (length y.table) y.buffer y.used (length (entries_in y)) → length (entries_in y) < 256 → is_flock f ≡ true
    → append_reply (length y.table) y.buffer y.used f m ≡ message_entry f m
unfolding append_reply buffer_reply behind_bundle
reply-is y f m a few h = rw (a.table, a.within, a.bundle, lt-ltb (length (entries_in y)) 256 few, h)

written_in : (l : List ℕ) (room : ℕ) → length l ≤ room → written_of (writes l) room ≡ Ok (length l)
unfolding written_of
written_in l room h = rw (le-leb (length l) room h)

module _ (x : Night) (t : IsTrue x) where
  is : after sweeps x ≡ swept_by x (entries_in x)
  is = after-sweep-is x (length (entries_in x)) (accepts x t)

  stay-read : entries_in (after sweeps x) ≡ picked is_undelivered (entries_in x)
  stay-read = ap entries_in is ∙ ap (λ (s : List ℕ). (walk s).entries) (sweep-front x t) ∙ ap (λ (w : Walk). w.entries) (sweep-bundle x t)

  end_is : (after sweeps x).used ≡ length (kept_octets (entries_in x))
  end_is = ap (λ (y : Night). y.used) is

  buffer-is : (after sweeps x).buffer ≡ splice x.buffer 0 (kept_octets (entries_in x))
  buffer-is = ap (λ (y : Night). y.buffer) is

  swept_all : Swept x (after sweeps x)
  swept_all =
      let k = kept_octets (entries_in x) in
      record {
        entries = stay-read;
        octets = used-is x t ∙ octets-parted (entries_in x) ∙ ap (λ (n : ℕ). n + length (entries_octets (picked is_delivered (entries_in x)))) (sym end_is);
        behind = rw (end_is, buffer-is) (ap (drop (length k)) (sweep-spliced x t) ∙ drop_at k (drop (length k) x.buffer) (length k) refl);
        room = rw buffer-is (splice-length x.buffer 0 k);
        plainly =
            λ f h.
            ap (λ (s : List Flock). get_or s (f - 1) none) t.table ∙ table_at (entries_in x) f h ∙ totals-parted f (entries_in x)
            ∙ ap (λ (r : Flock). both r (totals f (picked is_delivered (entries_in x))))
            (sym (ap (λ (s : List Flock). get_or s (f - 1) none) (sweep-kept x t).table ∙ table_at (entries_in (after sweeps x)) f h ∙ ap (totals f) stay-read));
      }

  -- an append behind it
  freed : (f : ℕ) (m l : List ℕ) → append_reply (length x.table) x.buffer x.used f m ≡ writes l → (after sweeps x).used + length l ≤ length x.buffer
      → append_answer (length (after sweeps x).table) (after sweeps x).buffer (after sweeps x).used f m ≡ Ok (length l)
  freed f m l e r =
      let y = after sweeps x in
      let k = sweep-kept x t in
      let a = accepts y k in
      let p = passed (length x.table) x.buffer x.used f m l e in
      let few : length (entries_in y) < 256 = rw stay-read (omega (arith, picked-few is_undelivered (entries_in x), p.few)) in
      let same : append_reply (length y.table) y.buffer y.used f m ≡ message_entry f m = reply-is y f m a few p.flock in
      let old : append_reply (length x.table) x.buffer x.used f m ≡ message_entry f m = reply-is x f m (accepts x t) p.few p.flock in
      let room : length l ≤ length y.buffer - y.used = omega (arith, r, swept_all.room) in
      ap (λ (q : Reply). written_of q (length y.buffer - y.used)) (same ∙ sym old ∙ e) ∙ written_in l (length y.buffer - y.used) room

-- ---- refused calls

unmarked-good : (x : Night) (i : ℕ) (es : List Entry) (a b : Bool) → ltb i (length es) ≡ a → is_delivered (entry_number es i) ≡ b
    → ((mark_plan_of x.used i es).number ≡ 0 → ⊥) → marked_by x i es ≡ x
unmarked-good x i es true true ea eb n = mark-same x i es true true ea eb refl
unmarked-good x i es true false ea eb n = absurd (n (rw (ea, eb)))
unmarked-good x i es false b ea eb n = mark-same x i es false b ea eb refl

module _ (x : Night) where
  unmarked-by : (i : ℕ) (j : Result ℕ Refused) → judged_call (length x.table) x.buffer x.used ≡ j → ((mark_plan (length x.table) x.buffer x.used i).number ≡ 0 → ⊥) → after (marks i) x ≡ x
  unfolding mark_plan marked
  unmarked-by i (Ok count) z n =
      let a = judged-good (length x.table) x.buffer x.used z in
      let p = on-good (length x.table) x.buffer x.used count a (idle_plan x.used) (mark_plan_of x.used i) in
      after-mark-is x i count a
      ∙ unmarked-good x i (entries_in x) (ltb i (length (entries_in x))) (is_delivered (entry_number (entries_in x) i)) refl refl
      (λ q. n (ap (λ (r : Plan). r.number) (sym p) ∙ q))
  unmarked-by i (Err e) z n =
      rw (
        ← (on-bad (length x.table) x.buffer x.used z (idle_plan x.used) (mark_plan_of x.used i)),
        ← (on-bad (length x.table) x.buffer x.used z (λ _ _. x.buffer) (marked_of x.buffer i)),
      )

  unswept-by : (j : Result ℕ Refused) → judged_call (length x.table) x.buffer x.used ≡ j → ((sweep_changes (length x.table) x.buffer x.used).number ≡ 0 → ⊥) → after sweeps x ≡ x
  unfolding sweep_changes swept
  unswept-by (Ok count) z n =
      let a = judged-good (length x.table) x.buffer x.used z in
      let off : List Entry → Changes = λ (es : List Entry). changes_by takes_off (length (kept_octets es)) (picked is_delivered es) in
      let p = on-good (length x.table) x.buffer x.used count a (refused_changes x.used) off in
      absurd (n (ap (λ (r : Changes). r.number) (sym p)))
  unswept-by (Err e) z n =
      let off : List Entry → Changes = λ (es : List Entry). changes_by takes_off (length (kept_octets es)) (picked is_delivered es) in
      rw (
        ← (on-bad (length x.table) x.buffer x.used z (refused_changes x.used) off),
        ← (on-bad (length x.table) x.buffer x.used z (λ _ _. x.buffer) (λ es. splice x.buffer 0 (kept_octets es))),
        changed-none (refused_changes x.used e.number e.place) 0 x.table refl,
      )

unmarked : (x : Night) (i : ℕ) → ((mark_plan (length x.table) x.buffer x.used i).number ≡ 0 → ⊥) → after (marks i) x ≡ x
unmarked x i n = unmarked-by x i (judged_call (length x.table) x.buffer x.used) refl n

unswept : (x : Night) → ((sweep_changes (length x.table) x.buffer x.used).number ≡ 0 → ⊥) → after sweeps x ≡ x
unswept x n = unswept-by x (judged_call (length x.table) x.buffer x.used) refl n

pub sweeping : Sweeping
sweeping =
    record {
      marked = λ x i t l u. marked-one x i t l u;
      again = again;
      swept = λ x t. swept_all x t;
      freed = λ x f m l t e r. freed x t f m l e r;
      unmarked = unmarked;
      unswept = unswept;
    }
