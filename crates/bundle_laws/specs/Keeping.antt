-- The table kept beside a bundle (02, items 6 and 11): "A flock's answer reads its one record and equals the whole bundle's, given a table built from the
-- bundle and kept by these calls"; from an empty bundle or from a rebuild, through every sequence of calls, refused ones among them.
use Rattle.std.specs.Prelude.{ℕ, ◌+◌, ◌-◌, ◌≤◌, ◌≡◌, true, false, List, [], ◌∷◌, length, take, get_or, is_some}
use Rattle.octets.specs.Limits.{flocks_most}
use Rattle.bundle.specs.Bundle.{is_flock, Entry, walk}
use Rattle.flock_table.specs.Table.{totals, table_of, none, totals_of, totals_answer}
use Rattle.flock_table.specs.declared.Flock.{Flock}
use Rattle.bundle_edit.specs.Append.{append_plan, appended, entered}
use Rattle.bundle_edit.specs.Changes.{changed_from, rebuild_changes}
use Rattle.bundle_edit.specs.Delivery.{mark_plan, marked, lessened, sweep_changes, swept}
use Rattle.bundle_edit.specs.declared.Plan.{Plan}

-- a buffer, how many of its octets are the bundle, and the table beside it
pub record Night : Type 0 where
  pub buffer : List ℕ
  pub used : ℕ
  pub table : List Flock

-- the bundle's entries
abbrev pub entries_in : Night → List Entry
entries_in x = (walk (take x.used x.buffer)).entries

-- the bundle is accepted and the table is its own
pub record IsTrue (x : Night) : Type 0 where
  pub within : x.used ≤ length x.buffer
  pub bundle : (walk (take x.used x.buffer)).stop ≡ 0
  pub table : x.table ≡ table_of (entries_in x)

-- ---- calls, and what each leaves by its promise (bundle_capi/specs/Entries)

pub data Call : Type 0 where
  -- of a flock and a message
  appends : ℕ → List ℕ → Call
  -- by entry number (02, item 11)
  marks : ℕ → Call
  sweeps : Call

-- the plan of an append
abbrev pub plan_in : Night → ℕ → List ℕ → Plan
plan_in x f m = append_plan (length x.table) x.buffer x.used f m

-- accepted or refused
abbrev pub after : Call → Night → Night
after (appends f m) x =
    record { buffer = appended (length x.table) x.buffer x.used f m; used = (plan_in x f m).used; table = entered (plan_in x f m) x.table }
after (marks i) x =
    let p = mark_plan (length x.table) x.buffer x.used i in
    record { buffer = marked (length x.table) x.buffer x.used i; used = p.used; table = lessened p x.table }
after sweeps x =
    let c = sweep_changes (length x.table) x.buffer x.used in
    record { buffer = swept (length x.table) x.buffer x.used; used = c.used; table = changed_from c 0 x.table }

-- one call behind the other
unfoldable pub after_all : List Call → Night → Night
after_all [] x = x
after_all (c ∷ cs) x = after_all cs (after c x)

-- ---- the claims

pub record Keeping : Type 0 where
  -- an empty bundle in whatever buffer, beside a table of records that count nothing
  pub begins : (b : List ℕ) → IsTrue (record { buffer = b; used = 0; table = table_of [] })
  -- a rebuild from any accepted bundle, whatever the table held
  pub rebuilt : (b : List ℕ) (used : ℕ) (t : List Flock) → used ≤ length b → (walk (take used b)).stop ≡ 0 → length t ≡ flocks_most
      → IsTrue (record { buffer = b; used = used; table = changed_from (rebuild_changes (length t) (take used b)) 0 t })
  -- a refused rebuild changes no record
  pub unbuilt : (n : ℕ) (s : List ℕ) (t : List Flock) → ((rebuild_changes n s).number ≡ 0 → ⊥) → changed_from (rebuild_changes n s) 0 t ≡ t
  -- every sequence of calls leaves a true table true
  pub kept : (cs : List Call) (x : Night) → IsTrue x → IsTrue (after_all cs x)
  -- a flock's answer is the whole bundle's
  pub answers : (x : Night) (f : ℕ) → IsTrue x → is_flock f ≡ true → totals_answer x.table f ≡ totals_of (totals f (entries_in x))
  -- no sum wraps: an accepted append adds to its flock's record plainly
  pub plainly : (x : Night) (f : ℕ) (m : List ℕ) → IsTrue x → is_some (plan_in x f m).index ≡ true
      → get_or (after (appends f m) x).table (f - 1) none
      ≡ record {
        entries = (get_or x.table (f - 1) none).entries + 1;
        bytes = (get_or x.table (f - 1) none).bytes + (plan_in x f m).size;
        undelivered = (get_or x.table (f - 1) none).undelivered + 1;
      }
  -- a refused append changes neither bundle nor table, whatever the table holds
  pub unchanged : (x : Night) (f : ℕ) (m : List ℕ) → is_some (plan_in x f m).index ≡ false → after (appends f m) x ≡ x
