-- A small table of bundles (02, items 1, 6, 11 and 12), by computation: "For Figure 13, flock 5, not delivered, the head is `0a 40 00 30`", what each refusal
-- looks like, what is kept of a cut transfer, what a table counts, and what a mark and a sweep leave.
use Rattle.std.specs.Prelude.{ℕ, ◌≡◌, List, [], ◌∷◌, ◌++◌, length, drop, replicate}
use Rattle.octets.specs.Ascii.{ascii}
use Rattle.octets.specs.Limits.{flocks_most}
use Rattle.numbers.specs.Places.{push}
use Rattle.output.specs.Reply.{Reply, writes, refuses}
use Rattle.examples.specs.Examples.{hex, figure13, post_binary}
use Rattle.bundle.specs.Bundle.{word_of, head_of, head_octets, entries_octets, message_verdict, headed, next_at, walk_from, walk, of_flock, flock_list}
use Rattle.bundle.specs.Salvage.{salvage_of}
use Rattle.flock_table.specs.Table.{picked, message_octets, totals, none, sum, plus, slot_of, totals_answer}
use Rattle.bundle_edit.specs.Append.{behind_bundle, buffer_reply, append_reply, new_record}
use Rattle.bundle_edit.specs.Changes.{rebuild_changes}
use Rattle.bundle_edit.specs.Delivery.{mark_plan, marked, sweep_changes, swept}
use Rattle.salvaging.specs.Line.{salvage_line}

-- ---- what a row says

pub data Row : Type 0 where
  -- a head of flock, delivered, kind and length has these octets
  heads : ℕ → ℕ → ℕ → ℕ → List ℕ → Row
  -- these octets are walked: so many entries, the end's place, the number that stopped it
  walks : List ℕ → ℕ → ℕ → ℕ → Row
  -- an append to the first `used` octets of a buffer, beside a table of 127 records, of a flock and a message, replies so
  appends : List ℕ → ℕ → ℕ → List ℕ → Reply → Row
  -- the list of a flock of these octets
  lists : ℕ → List ℕ → Reply → Row
  -- of these octets so many entries and these octets are kept, so many are left off, and the number that stopped it
  salvages : List ℕ → ℕ → List ℕ → ℕ → ℕ → Row
  -- the salvage program prints this line for these octets
  prints : List ℕ → List ℕ → Row
  -- of these octets a flock has so many entries, octets of message and undelivered entries
  counts : List ℕ → ℕ → ℕ → ℕ → ℕ → Row
  -- an append as above, beside a table of so many records
  besides : ℕ → List ℕ → ℕ → ℕ → List ℕ → Reply → Row
  -- a record of three numbers, and an entry of so many octets added to it
  enters : ℕ → ℕ → ℕ → ℕ → ℕ → ℕ → ℕ → Row
  -- a flock asked of a table of so many records that count nothing: the number
  asks : ℕ → ℕ → ℕ → Row
  -- a rebuild beside so many records from these octets: number and place
  rebuilds : ℕ → List ℕ → ℕ → ℕ → Row
  -- a mark beside so many records, in a buffer and its used length, of an entry: number and place, and the buffer afterwards
  marks : ℕ → List ℕ → ℕ → ℕ → ℕ → ℕ → List ℕ → Row
  -- a sweep beside so many records, in a buffer and its used length: number, place, used length, and the buffer afterwards
  sweeps : ℕ → List ℕ → ℕ → ℕ → ℕ → ℕ → List ℕ → Row

-- it holds
abbrev pub Holds : Row → Type 0
Holds (heads f d k n l) = head_octets (head_of f d k n) ≡ l
Holds (walks s count end stop) = (length (walk s).entries ≡ count) × ((walk s).end ≡ end) × ((walk s).stop ≡ stop)
Holds (appends b used f m y) = append_reply flocks_most b used f m ≡ y
Holds (lists f s y) = flock_list f s ≡ y
Holds (salvages s count kept left stop) = salvage_of s ≡ record { entries = count; octets = kept; left = left; stop = stop }
Holds (prints s line) = salvage_line s ≡ line
Holds (counts s f e b u) = totals f (walk s).entries ≡ record { entries = e; bytes = b; undelivered = u }
Holds (besides n b used f m y) = append_reply n b used f m ≡ y
Holds (enters e b u n e' b' u') =
    plus (record { entries = e; bytes = b; undelivered = u }) (new_record n) ≡ record { entries = e'; bytes = b'; undelivered = u' }
Holds (asks n f k) = (totals_answer (replicate n none) f).number ≡ k
Holds (rebuilds n s k p) = ((rebuild_changes n s).number ≡ k) × ((rebuild_changes n s).place ≡ p)
Holds (marks n b used i k p l) = ((mark_plan n b used i).number ≡ k) × ((mark_plan n b used i).place ≡ p) × (marked n b used i ≡ l)
Holds (sweeps n b used k p e l) =
    ((sweep_changes n b used).number ≡ k) × ((sweep_changes n b used).place ≡ p) × ((sweep_changes n b used).used ≡ e) × (swept n b used ≡ l)

-- all rows hold
abbrev pub All : List Row → Type 0
All [] = Unit {0}
All (r ∷ rs) = Holds r × All rs

-- ---- the table

-- Figure 13 as an entry of flock 5, not delivered; delivered
unfoldable pub entry13 : List ℕ
entry13 = hex "0a400030" ++ figure13

-- the same, delivered
unfoldable pub delivered13 : List ℕ
delivered13 = hex "0b400030" ++ figure13

-- P5's Binary as an entry of flock 6
unfoldable pub entry_p5 : List ℕ
entry_p5 = hex "0c000016" ++ post_binary

-- the rows, by 02's order
unfoldable pub table : List Row
table =
    heads 5 0 1 48 (hex "0a400030")
    ∷ appends [] 0 5 figure13 (writes entry13)
    -- "an empty one is accepted"
    ∷ walks [] 0 0 0
    ∷ walks entry13 1 52 0
    ∷ walks (entry13 ++ delivered13) 2 104 0
    -- cut head: 9 at the entry
    ∷ walks (entry13 ++ hex "0a4000") 1 52 9
    -- flock 0, kind 2: 15, before the length and before a cut message
    ∷ walks (hex "007fffff") 0 0 15
    ∷ walks (hex "0abfffff") 0 0 15
    -- a length above 65,535: 8; a cut message: 9
    ∷ walks (hex "0a410000") 0 0 8
    ∷ walks (hex "0a400030 01") 0 0 9
    -- the message's own: an empty message is 9
    ∷ walks (hex "0a400000") 0 0 9
    -- a kind other than the message's; a padded message: 15
    ∷ walks (hex "0a000030" ++ figure13) 0 0 15
    ∷ walks (hex "0a400031" ++ figure13 ++ hex "00") 0 0 15
    -- the appender: behind another entry; a used length past the buffer; no flock; the message's own at its own place
    ∷ appends (entry13 ++ hex "ffff") 52 6 post_binary (writes entry_p5)
    ∷ appends entry13 53 5 figure13 (refuses 13 0)
    ∷ appends entry13 51 5 figure13 (refuses 9 0)
    ∷ appends entry13 52 128 figure13 (refuses 15 0)
    ∷ appends entry13 52 5 (figure13 ++ hex "01") (refuses 12 48)
    -- lists: delivered entries too; an empty one; no flock, behind the bundle's own
    ∷ lists 5 (entry13 ++ entry_p5 ++ delivered13) (writes (entry13 ++ delivered13))
    ∷ lists 7 entry13 (writes [])
    ∷ lists 0 entry13 (refuses 15 0)
    ∷ lists 0 (hex "0a") (refuses 9 0)
    -- salvage: of a whole bundle; cut in a head, in a message and between entries; damaged
    ∷ salvages (entry13 ++ delivered13) 2 (entry13 ++ delivered13) 0 0
    ∷ salvages (entry13 ++ hex "0a4000") 1 entry13 3 9
    ∷ salvages (entry13 ++ hex "0b40003001") 1 entry13 5 9
    ∷ salvages entry13 1 entry13 0 0
    ∷ salvages (entry13 ++ hex "00400030" ++ figure13) 1 entry13 52 15
    ∷ prints (entry13 ++ hex "0b40003001") (ascii "kept 1 52 left 5 stop 9\n")
    -- the table: Figure 13 counts 48, heads do not; a delivered entry is no undelivered one
    ∷ counts (entry13 ++ entry_p5 ++ delivered13) 5 2 96 1
    ∷ counts (entry13 ++ entry_p5 ++ delivered13) 6 1 22 1
    ∷ counts entry13 7 0 0 0
    -- not 127 records: 16, before all else, too many as too few
    ∷ besides 126 entry13 53 0 [] (refuses 16 0)
    ∷ besides 128 entry13 53 0 [] (refuses 16 0)
    ∷ besides 127 entry13 53 0 [] (refuses 13 0)
    -- each number wraps by itself
    ∷ enters 4294967295 4294967250 7 48 0 2 8
    -- a flock's answer: 16 before 15; a rebuild: 16 before the bundle's own
    ∷ asks 128 0 16
    ∷ asks 127 0 15
    ∷ asks 127 127 0
    ∷ rebuilds 126 (hex "0a") 16 0
    ∷ rebuilds 127 (entry13 ++ hex "0a") 9 52
    ∷ rebuilds 127 entry13 0 0
    -- a mark: one octet; again: accepted, nothing changes; 18 for the entry behind the last; 16 and 13 before it
    ∷ marks 127 (entry_p5 ++ entry13) 78 1 0 0 (entry_p5 ++ delivered13)
    ∷ marks 127 delivered13 52 0 0 0 delivered13
    ∷ marks 127 entry13 52 1 18 0 entry13
    ∷ marks 126 entry13 53 1 16 0 entry13
    ∷ marks 127 entry13 53 1 13 0 entry13
    -- a sweep: what is kept moves forward; behind the new end the old octets stay
    ∷ sweeps 127 (delivered13 ++ entry_p5 ++ hex "ee") 78 0 0 26 (entry_p5 ++ drop 26 delivered13 ++ entry_p5 ++ hex "ee")
    ∷ sweeps 127 entry13 52 0 0 52 entry13
    ∷ sweeps 127 delivered13 52 0 0 0 delivered13
    ∷ sweeps 127 entry13 51 9 0 51 entry13
    ∷ []

-- opens the definitions of bundles, so that the rows are proved by computation
unfoldable pub opened : Unit {0}
unfolding push word_of head_octets entries_octets message_verdict headed next_at walk_from walk of_flock flock_list behind_bundle append_reply salvage_of salvage_line
opened = tt

-- and those of tables
unfoldable pub opened_tables : Unit {0}
unfolding buffer_reply picked message_octets plus sum slot_of rebuild_changes mark_plan marked sweep_changes swept
opened_tables = tt
