-- What is done to all records of a table at once (02, item 6, "Add a rebuild from any accepted bundle"): the answer of such a call, flat, and each record
-- afterwards.
use Rattle.std.specs.Prelude.{ℕ, ◌+◌, ◌*◌, ◌-◌, Bool, true, cond, List, [], ◌∷◌, ◌++◌, ltb, eqb, length, get_or, replicate}
use Rattle.octets.specs.Limits.{flocks_most}
use Rattle.bundle.specs.Bundle.{delivered_of, length_of, Entry, walk}
use Rattle.flock_table.specs.Table.{is_delivered, table_of, minus}
use Rattle.flock_table.specs.declared.Flock.{Flock}
use Rattle.bundle_edit.specs.Calls.{beside_table, of_bundle}
use Rattle.bundle_edit.specs.declared.Changes.{Changes}

-- ---- a table as numbers: three a record, in order

abbrev pub record_numbers : Flock → List ℕ
record_numbers r = r.entries ∷ r.bytes ∷ r.undelivered ∷ []

-- of all its records
unfoldable pub table_numbers : List Flock → List ℕ
table_numbers [] = []
table_numbers (r ∷ rs) = record_numbers r ++ table_numbers rs

-- the k-th record of such numbers
abbrev pub record_at : List ℕ → ℕ → Flock
record_at ns k = record { entries = get_or ns (k * 3) 0; bytes = get_or ns (k * 3 + 1) 0; undelivered = get_or ns (k * 3 + 2) 0 }

-- the record of one entry, by its head
abbrev pub head_record : ℕ → Flock
head_record w = record { entries = 1; bytes = length_of w; undelivered = 1 - delivered_of w }

-- the entries that are counted: all of them, or those that are delivered
abbrev pub is_counted : Bool → Entry → Bool
is_counted all e = cond all true (is_delivered e)

-- ---- what is done to a record, by a number: nothing, another one is put, or taken off; by any further number nothing

abbrev pub leaves : ℕ
leaves = 0

abbrev pub puts : ℕ
puts = 1

abbrev pub takes_off : ℕ
takes_off = 2

abbrev pub changed_by : ℕ → Flock → Flock → Flock
changed_by kind s r = cond (eqb kind puts) s (cond (eqb kind takes_off) (minus r s) r)

-- the k-th record afterwards
unfoldable pub changed : Changes → ℕ → Flock → Flock
changed c k r = cond (ltb k flocks_most) (changed_by c.kind (record_at c.counts k) r) r

-- the records from the k-th on
unfoldable pub changed_from : Changes → ℕ → List Flock → List Flock
changed_from c k [] = []
changed_from c k (r ∷ rs) = changed c k r ∷ changed_from c (k + 1) rs

-- ---- the calls

-- a refusal: no record changes, the used length is as it was told
abbrev pub refused_changes : ℕ → ℕ → ℕ → Changes
refused_changes used number place = record { kind = leaves; number = number; place = place; used = used; counts = replicate 381 0 }

-- what is done to each record is done with the record of its flock among these entries
abbrev pub changes_by : ℕ → ℕ → List Entry → Changes
changes_by kind used es = record { kind = kind; number = 0; place = 0; used = used; counts = table_numbers (table_of es) }

-- a rebuild beside a table of n records: 16 at 0, the bundle's own number, or the table of its entries
unfoldable pub rebuild_changes : ℕ → List ℕ → Changes
rebuild_changes n s = beside_table (refused_changes (length s)) n (of_bundle (refused_changes (length s)) (walk s) (changes_by puts (length s)))
