-- The appender of Binary messages (02, item 1): "judges the bundle (its own place), then count, flock and message, then written length, then room". It is a
-- writer into the buffer from the used length on: what it writes there is one entry, undelivered, of the message's kind and as long as what is written.
use Rattle.std.specs.Prelude.{ℕ, ◌+◌, ◌-◌, ◌≤◌, ◌≡◌, cond, List, ◌++◌, ltb, length, take, get_or, set, Option, Some, None, Ok, Err}
use Rattle.octets.specs.Refusals.{too_large, bad_entry}
use Rattle.messages.specs.Meaning.{Meaning}
use Rattle.messages.specs.Valid.{of_response}
use Rattle.binary_writer.specs.Write.{to_binary}
use Rattle.output.specs.Reply.{Reply, writes, refuses, written_of, lent_after_at, Written}
use Rattle.turn.specs.Turn.{reply_from}
use Rattle.octets.specs.Limits.{binary_most, entries_most}
use Rattle.bundle.specs.Bundle.{head_of, head_octets, is_flock, read_message, kind_number, Entry, walk}
use Rattle.flock_table.specs.Table.{none, plus}
use Rattle.flock_table.specs.declared.Flock.{Flock}
use Rattle.bundle_edit.specs.Calls.{beside_table, in_buffer, of_bundle}
use Rattle.script.specs.Script.{Answer, accepted, refused, more}
use Rattle.messages.specs.Message.{Message}
use Rattle.bundle_edit.specs.declared.Plan.{Plan}

-- ---- what is written

-- a message behind its head: of the flock, not delivered, of this kind; a refusal stands
abbrev pub with_head : ℕ → ℕ → Reply → Reply
with_head f kind (writes bs) = writes (head_octets (head_of f 0 kind (length bs)) ++ bs)
with_head f kind (refuses number place) = refuses number place

-- the entry of a meaning: "written length" is 8 at 0 (to_binary)
abbrev pub entry_for : ℕ → Meaning → Reply
entry_for f x = with_head f (kind_number (of_response x.control)) (to_binary x)

-- the entry of a message, whose own numbers stand at its own places
abbrev pub message_entry : ℕ → List ℕ → Reply
message_entry f m = reply_from (length m) (read_message m) (entry_for f)

-- behind these entries: 8 at 0 for a 257th entry, 15 at 0 for no flock, then the message
abbrev pub behind_entries : ℕ → List ℕ → List Entry → Reply
behind_entries f m es = cond (ltb (length es) entries_most) (cond (is_flock f) (message_entry f m) (refuses bad_entry 0)) (refuses too_large 0)

-- behind the bundle that the first `used` octets of the buffer are
unfoldable pub behind_bundle : List ℕ → ℕ → ℕ → List ℕ → Reply
behind_bundle b used f m = of_bundle refuses (walk (take used b)) (behind_entries f m)

-- "a used length past the buffer is 13 first"
unfoldable pub buffer_reply : List ℕ → ℕ → ℕ → List ℕ → Reply
buffer_reply b used f m = in_buffer refuses b used (behind_bundle b used f m)

-- "16 at 0 for a table that has not 127 records, before all else": n is how many it has
unfoldable pub append_reply : ℕ → List ℕ → ℕ → ℕ → List ℕ → Reply
append_reply n b used f m = beside_table refuses n (buffer_reply b used f m)

-- ---- the flat answer, and the buffer afterwards

-- which record of a table is to be changed, if any, and by how many octets of message; number, place and the used length afterwards; and how many
-- integers of the message were not in their shortest form (item 8)
abbrev pub plan_of : ℕ → ℕ → ℕ → Written → Plan
plan_of used f long (Ok n) = record { index = Some (f - 1); size = n - 4; number = 0; place = 0; used = used + n; long = long }
plan_of used f long (Err e) = record { index = None; size = 0; number = e.number; place = e.place; used = used; long = 0 }

-- how many integers of a message that was read are not in their shortest form; none where it was refused
abbrev pub long_in : Answer Message → ℕ
long_in (accepted n m) = m.long
long_in (refused k p) = 0
long_in more = 0

-- what an append answers: room is what is behind the used length, 13 at 0
unfoldable pub append_plan : ℕ → List ℕ → ℕ → ℕ → List ℕ → Plan
append_plan n b used f m = plan_of used f (long_in (read_message m)) (written_of (append_reply n b used f m) (length b - used))

-- the buffer afterwards: a refusal alters no octet of it
unfoldable pub appended : ℕ → List ℕ → ℕ → ℕ → List ℕ → List ℕ
appended n b used f m = lent_after_at (append_reply n b used f m) used b

-- an append to the buffer b, beside a table of n records, answers r and leaves b'
abbrev pub Planned : ℕ → List ℕ → ℕ → ℕ → List ℕ → List ℕ → Plan → Type 0
Planned n b used f m b' r = (r ≡ append_plan n b used f m) × (b' ≡ appended n b used f m)

-- ---- the table afterwards (02, item 6: "Appending keeps it true")

-- the record of a new entry whose message has so many octets
abbrev pub new_record : ℕ → Flock
new_record n = record { entries = 1; bytes = n; undelivered = 1 }

-- with an entry more in the record of this index, if there is one
abbrev pub entered_at : Option ℕ → ℕ → List Flock → List Flock
entered_at (Some i) size t = set t i (plus (get_or t i none) (new_record size))
entered_at None size t = t

-- by the plan: one record changes, or none
abbrev pub entered : Plan → List Flock → List Flock
entered p t = entered_at p.index p.size t

-- ---- the code

-- an answer that may be made into a plan without passing a number's width
abbrev pub Fair : ℕ → ℕ → ℕ → Written → Type 0
Fair room used f (Ok n) = (used + n ≤ room) × (4 ≤ n) × (n ≤ 4 + binary_most) × (1 ≤ f)
Fair room used f (Err e) = Unit {0}
