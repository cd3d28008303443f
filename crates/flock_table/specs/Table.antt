-- The table of flock records (02, item 6): beside a bundle, "one per flock, in a list lent by the caller: entries, message bytes and undelivered entries".
-- What it says of a bundle, and the arithmetic on one record.
use Rattle.std.specs.Prelude.{ℕ, ◌+◌, ◌-◌, ◌%◌, Bool, not, cond, List, [], ◌∷◌, eqb, length, get_or, Result, Ok, Err}
use Rattle.octets.specs.Limits.{flocks_most}
use Rattle.octets.specs.Refusals.{refusal_number}
use Rattle.octets.specs.declared.Refusal.{Refusal}
use Rattle.octets.specs.declared.Refusal.TheVariants.{BadEntry, BadTable}
use Rattle.bundle.specs.Bundle.{word_of, delivered_of, is_flock, Entry, pick_if, of_flock}
use Rattle.flock_table.specs.declared.Flock.{Flock}
use Rattle.flock_table.specs.declared.Totals.{Totals}
use Rattle.flock_table.specs.Tabulate.{tabulate}

-- ---- what a table says of a bundle

-- the entries that pass a test, in order
unfoldable pub picked : (Entry → Bool) → List Entry → List Entry
picked p [] = []
picked p (e ∷ es) = pick_if (p e) e (picked p es)

-- "1 bit delivered"
abbrev pub is_delivered : Entry → Bool
is_delivered e = eqb (delivered_of (word_of e.head)) 1

-- the others
abbrev pub is_undelivered : Entry → Bool
is_undelivered e = not (is_delivered e)

-- the octets of the messages of entries; heads do not count
unfoldable pub message_octets : List Entry → ℕ
message_octets [] = 0
message_octets (e ∷ es) = length e.text + message_octets es

-- "entries, message bytes and undelivered entries" of these entries
abbrev pub record_of : List Entry → Flock
record_of es = record { entries = length es; bytes = message_octets es; undelivered = length (picked is_undelivered es) }

-- the record of one flock
abbrev pub totals : ℕ → List Entry → Flock
totals f es = record_of (of_flock f es)

-- the table of a bundle: the records of flocks 1 to 127
unfoldable pub table_of : List Entry → List Flock
table_of es = tabulate flocks_most 1 (λ f. totals f es)

-- ---- arithmetic on one record

-- no entries
abbrev pub none : Flock
none = record { entries = 0; bytes = 0; undelivered = 0 }

-- "sums wrap at 32 bits", each number by itself
unfoldable pub sum : ℕ → ℕ → ℕ
sum a b = (a + b) % 4294967296

-- and so does what is taken off
unfoldable pub difference : ℕ → ℕ → ℕ
difference a b = (a + (4294967296 - b)) % 4294967296

-- a record with another one added to it
unfoldable pub plus : Flock → Flock → Flock
plus r s = record { entries = sum r.entries s.entries; bytes = sum r.bytes s.bytes; undelivered = sum r.undelivered s.undelivered }

-- a record with another one taken off it
unfoldable pub minus : Flock → Flock → Flock
minus r s =
    record {
      entries = difference r.entries s.entries;
      bytes = difference r.bytes s.bytes;
      undelivered = difference r.undelivered s.undelivered;
    }

-- ---- a flock's answer

-- where a flock's record stands in a table of n records: "16 at 0 for a table that has not 127 records, before all else", then 15 for no flock
unfoldable pub slot_of : ℕ → ℕ → Result ℕ Refusal
slot_of n f = cond (eqb n flocks_most) (cond (is_flock f) (Ok (f - 1)) (Err BadEntry)) (Err BadTable)

-- the answer of a record
abbrev pub totals_of : Flock → Totals
totals_of r = record { number = 0; place = 0; entries = r.entries; bytes = r.bytes; undelivered = r.undelivered }

-- a refusal
abbrev pub no_totals : ℕ → Totals
no_totals k = record { number = k; place = 0; entries = 0; bytes = 0; undelivered = 0 }

-- at a place in the table
abbrev pub totals_at : Result ℕ Refusal → List Flock → Totals
totals_at (Ok i) t = totals_of (get_or t i none)
totals_at (Err r) t = no_totals (refusal_number r)

-- "A flock's answer reads its one record"
abbrev pub totals_answer : List Flock → ℕ → Totals
totals_answer t f = totals_at (slot_of (length t) f) t
