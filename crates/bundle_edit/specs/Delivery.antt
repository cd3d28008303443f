-- Room back in the bundle (02, item 11): "marking by entry number, counted from 0, and a sweep in the caller's buffer". "Order: 16, the appender's 13 at 0 for
-- a used length past the buffer, the bundle's own, 18": the first three are `on_bundle` (Calls). Each call's answer, flat, and the buffer afterwards.
use Rattle.std.specs.Prelude.{ℕ, ◌+◌, ◌-◌, ◌≤◌, ◌≡◌, true, cond, List, [], ltb, length, take, drop, get_or, set, Option, Some, None, Result, Ok, Err}
use Rattle.octets.specs.Refusals.{no_entry, refused_at}
use Rattle.octets.specs.declared.Refused.{Refused}
use Rattle.output.specs.Splice.{splice}
use Rattle.bundle.specs.Bundle.{word_of, flock_of, is_flock, Entry, entries_octets}
use Rattle.flock_table.specs.Table.{picked, is_delivered, is_undelivered, none, minus}
use Rattle.flock_table.specs.declared.Flock.{Flock}
use Rattle.bundle_edit.specs.Calls.{on_bundle}
use Rattle.bundle_edit.specs.Changes.{refused_changes, changes_by, takes_off}
use Rattle.bundle_edit.specs.declared.Plan.{Plan}
use Rattle.bundle_edit.specs.declared.Changes.{Changes}

-- ---- marking

-- what is read past the last entry
abbrev pub none_there : Entry
none_there = record { head = []; text = [] }

-- the i-th entry, counted from 0
abbrev pub entry_number : List Entry → ℕ → Entry
entry_number es i = get_or es i none_there

-- where it begins
abbrev pub entry_place : List Entry → ℕ → ℕ
entry_place es i = length (entries_octets (take i es))

-- a plan without a record to change: a refusal, or 0 for an entry that is delivered already
abbrev pub idle_plan : ℕ → ℕ → ℕ → Plan
idle_plan used number place = record { index = None; size = 0; number = number; place = place; used = used; long = 0 }

-- the plan for an entry of this head: its flock's record has one undelivered entry less
abbrev pub marking_plan : ℕ → ℕ → Plan
marking_plan used word = record { index = Some (flock_of word - 1); size = 0; number = 0; place = 0; used = used; long = 0 }

-- of these entries: "18 at 0 for an entry number that is not there; marking a delivered entry again is accepted and changes nothing"
abbrev pub mark_plan_of : ℕ → ℕ → List Entry → Plan
mark_plan_of used i es =
    cond (ltb i (length es))
    (cond (is_delivered (entry_number es i)) (idle_plan used 0 0) (marking_plan used (word_of (entry_number es i).head)))
    (idle_plan used no_entry 0)

-- the octets: the mark is the lowest bit of the head's first octet
abbrev pub marked_of : List ℕ → ℕ → List Entry → List ℕ
marked_of b i es =
    cond (ltb i (length es)) (cond (is_delivered (entry_number es i)) b (set b (entry_place es i) (get_or b (entry_place es i) 0 + 1))) b

-- what a mark beside a table of n records answers
unfoldable pub mark_plan : ℕ → List ℕ → ℕ → ℕ → Plan
mark_plan n b used i = on_bundle (idle_plan used) n b used (mark_plan_of used i)

-- and the buffer afterwards
unfoldable pub marked : ℕ → List ℕ → ℕ → ℕ → List ℕ
marked n b used i = on_bundle (λ _ _. b) n b used (marked_of b i)

-- one undelivered entry, which a mark takes off
abbrev pub one_undelivered : Flock
one_undelivered = record { entries = 0; bytes = 0; undelivered = 1 }

-- with an undelivered entry less in the record of this index, if there is one
abbrev pub lessened_at : Option ℕ → List Flock → List Flock
lessened_at (Some i) t = set t i (minus (get_or t i none) one_undelivered)
lessened_at None t = t

-- the table afterwards, by the plan
abbrev pub lessened : Plan → List Flock → List Flock
lessened p t = lessened_at p.index t

-- ---- the sweep

-- what stays of entries: "undelivered entries move forward, in order and with all their bytes"
abbrev pub kept_octets : List Entry → List ℕ
kept_octets es = entries_octets (picked is_undelivered es)

-- what a sweep beside a table of n records answers: the records of the delivered entries are taken off
unfoldable pub sweep_changes : ℕ → List ℕ → ℕ → Changes
sweep_changes n b used = on_bundle (refused_changes used) n b used (λ es. changes_by takes_off (length (kept_octets es)) (picked is_delivered es))

-- and the buffer afterwards: "Behind the new end the old bytes stay"
unfoldable pub swept : ℕ → List ℕ → ℕ → List ℕ
swept n b used = on_bundle (λ _ _. b) n b used (λ es. splice b 0 (kept_octets es))

-- ---- the code

-- what is judged before either: how many entries there are, or the refusal
unfoldable pub judged_call : ℕ → List ℕ → ℕ → Result ℕ Refused
judged_call n b used = on_bundle (λ k p. Err (refused_at k p)) n b used (λ es. Ok (length es))

-- an entry that was found in the front of the buffer b: its place, its head
pub record Finds (b : List ℕ) (es : List Entry) (i at word : ℕ) : Type 0 where
  pub place : at ≡ entry_place es i
  pub head : word ≡ word_of (entry_number es i).head
  pub flock : is_flock (flock_of word) ≡ true
  pub within : at + 4 ≤ length b
  pub stands : word ≡ word_of (drop at b)

-- a mark answers r and leaves b'
abbrev pub Marks : ℕ → List ℕ → ℕ → ℕ → List ℕ → Plan → Type 0
Marks n b used i b' r = (r ≡ mark_plan n b used i) × (b' ≡ marked n b used i)

-- a sweep answers r and leaves b'
abbrev pub Sweeps : ℕ → List ℕ → ℕ → List ℕ → Changes → Type 0
Sweeps n b used b' r = (r ≡ sweep_changes n b used) × (b' ≡ swept n b used)
