-- Room back in the bundle (02, item 11): a mark, and a sweep in the caller's buffer. That both leave a true table true is `kept` of Keeping.
use Rattle.std.specs.Prelude.{ℕ, ◌+◌, ◌-◌, ◌≤◌, ◌<◌, ◌≡◌, true, false, List, length, drop, get_or, set, Ok}
use Rattle.output.specs.Reply.{writes}
use Rattle.bundle.specs.Bundle.{word_of, flock_of, kind_of, is_flock, Entry, entries_octets}
use Rattle.flock_table.specs.Table.{picked, is_delivered, is_undelivered, totals, none}
use Rattle.bundle_edit.specs.Append.{append_reply}
use Rattle.bundle_edit.specs.Delivery.{entry_number, mark_plan, sweep_changes}
use Rattle.bundle_laws.specs.Appending.{append_answer}
use Rattle.bundle_laws.specs.Keeping.{Night, entries_in, IsTrue, marks, sweeps, after}

-- ---- a mark

-- an undelivered entry with its mark, which is the lowest bit of its head's first octet
abbrev pub delivered_entry : Entry → Entry
delivered_entry e = record { head = set e.head 0 (get_or e.head 0 0 + 1); text = e.text }

-- the entry e was undelivered, and d stands for it now: it is delivered, and nothing else of it changed
pub record Delivered (e d : Entry) : Type 0 where
  pub marked : is_delivered d ≡ true
  pub flock : flock_of (word_of d.head) ≡ flock_of (word_of e.head)
  pub kind : kind_of (word_of d.head) ≡ kind_of (word_of e.head)
  pub text : d.text ≡ e.text

-- a mark of an undelivered entry, the i-th: x before, y after it
pub record Marked (x : Night) (i : ℕ) (y : Night) : Type 0 where
  pub entry : Delivered (entry_number (entries_in x) i) (delivered_entry (entry_number (entries_in x) i))
  -- the entries are read as before but for this one
  pub entries : entries_in y ≡ set (entries_in x) i (delivered_entry (entry_number (entries_in x) i))
  pub used : y.used ≡ x.used
  -- no sum wraps: its flock's record has one undelivered entry less, plainly
  pub plainly : let k = flock_of (word_of (entry_number (entries_in x) i).head) - 1 in
      get_or x.table k none
      ≡ record {
        entries = (get_or y.table k none).entries;
        bytes = (get_or y.table k none).bytes;
        undelivered = (get_or y.table k none).undelivered + 1;
      }

-- ---- a sweep: x before, y after it

pub record Swept (x y : Night) : Type 0 where
  -- what it leaves is read as the undelivered entries, in order, with all their octets
  pub entries : entries_in y ≡ picked is_undelivered (entries_in x)
  -- octets before the sweep are octets kept and octets of delivered entries
  pub octets : x.used ≡ y.used + length (entries_octets (picked is_delivered (entries_in x)))
  -- behind the new end the old octets stay
  pub behind : drop y.used y.buffer ≡ drop y.used x.buffer
  pub room : length y.buffer ≡ length x.buffer
  -- no sum wraps: of each flock what is taken off is the record of its delivered entries, plainly
  pub plainly : (f : ℕ) → is_flock f ≡ true
      → get_or x.table (f - 1) none
      ≡ record {
        entries = (get_or y.table (f - 1) none).entries + (totals f (picked is_delivered (entries_in x))).entries;
        bytes = (get_or y.table (f - 1) none).bytes + (totals f (picked is_delivered (entries_in x))).bytes;
        undelivered = (get_or y.table (f - 1) none).undelivered + (totals f (picked is_delivered (entries_in x))).undelivered;
      }

-- ---- the claims

pub record Sweeping : Type 0 where
  pub marked : (x : Night) (i : ℕ) → IsTrue x → i < length (entries_in x) → is_delivered (entry_number (entries_in x) i) ≡ false → Marked x i (after (marks i) x)
  -- "marking a delivered entry again is accepted and changes nothing"
  pub again : (x : Night) (i : ℕ) → IsTrue x → i < length (entries_in x) → is_delivered (entry_number (entries_in x) i) ≡ true
      → (after (marks i) x ≡ x) × ((mark_plan (length x.table) x.buffer x.used i).number ≡ 0)
  pub swept : (x : Night) → IsTrue x → Swept x (after sweeps x)
  -- "Freed room is used by the next append": one that had no room before a sweep is accepted behind it wherever the room then suffices
  pub freed : (x : Night) (f : ℕ) (m l : List ℕ) → IsTrue x → append_reply (length x.table) x.buffer x.used f m ≡ writes l
      → (after sweeps x).used + length l ≤ length x.buffer
      → append_answer (length (after sweeps x).table) (after sweeps x).buffer (after sweeps x).used f m ≡ Ok (length l)
  -- "a refused call changes neither bundle nor table", whatever the table holds
  pub unmarked : (x : Night) (i : ℕ) → ((mark_plan (length x.table) x.buffer x.used i).number ≡ 0 → ⊥) → after (marks i) x ≡ x
  pub unswept : (x : Night) → ((sweep_changes (length x.table) x.buffer x.used).number ≡ 0 → ⊥) → after sweeps x ≡ x
