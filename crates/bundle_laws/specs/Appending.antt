-- An append (02, item 1): "The appender makes undelivered entries"; what it accepts is read back as the entries before it and the new one; what it refuses
-- alters nothing.
use Rattle.std.specs.Prelude.{ℕ, ◌+◌, ◌-◌, ◌≤◌, ◌≡◌, List, [], ◌∷◌, ◌++◌, length, take, drop, Ok, Err}
use Rattle.octets.specs.Limits.{flocks_most}
use Rattle.script.specs.Script.{accepted}
use Rattle.messages.specs.Message.{is_response, Message}
use Rattle.messages.specs.Meaning.{meaning}
use Rattle.binary_writer.specs.Write.{binary_of}
use Rattle.output.specs.Reply.{written_of, Written}
use Rattle.bundle.specs.Bundle.{word_of, flock_of, delivered_of, kind_of, Entry, read_message, kind_number}
use Rattle.bundle_edit.specs.Append.{append_reply, appended}
use Rattle.bundle_laws.specs.Reading.{InForm, IsBundle}
use Rattle.octets.specs.Refusals.{refused_at}

-- what an append to the first `used` octets of the buffer b, beside a table of so many records, answers
abbrev pub append_answer : ℕ → List ℕ → ℕ → ℕ → List ℕ → Written
append_answer records b used f m = written_of (append_reply records b used f m) (length b - used)

-- an accepted append of n octets
pub record Added (records : ℕ) (b : List ℕ) (used f : ℕ) (m : List ℕ) (n : ℕ) : Type 0 where
  -- the bundle before it, and the message that was read
  pub before : List Entry
  pub was : IsBundle (take used b) before
  pub long : ℕ
  pub message : Message
  pub read : read_message m ≡ accepted long message
  -- the new entry: of the flock, undelivered, of the message's kind, in form, with the message's meaning
  pub entry : Entry
  pub good : InForm entry
  pub flock : flock_of (word_of entry.head) ≡ f
  pub undelivered : delivered_of (word_of entry.head) ≡ 0
  pub kind : kind_of (word_of entry.head) ≡ kind_number (is_response message.start)
  pub text : entry.text ≡ binary_of (meaning message)
  -- the octets up to the new end are read as the entries before it and the new one
  pub is : IsBundle (take (used + n) (appended records b used f m)) (before ++ entry ∷ [])
  -- the octets before it and those behind the new end stay
  pub within : used + n ≤ length b
  pub front : take used (appended records b used f m) ≡ take used b
  pub behind : drop (used + n) (appended records b used f m) ≡ drop (used + n) b
  -- beside a table of 127 records; head and message are all that is written
  pub table : records ≡ flocks_most
  pub size : n ≡ 4 + length entry.text

-- the claims on the appender
pub record Appending : Type 0 where
  pub adds : (records : ℕ) (b : List ℕ) (used f : ℕ) (m : List ℕ) (n : ℕ) → append_answer records b used f m ≡ Ok n → Added records b used f m n
  -- a refused append alters no octet of the buffer, head included
  pub refused : (records : ℕ) (b : List ℕ) (used f : ℕ) (m : List ℕ) (k p : ℕ) → append_answer records b used f m ≡ Err (refused_at k p)
      → appended records b used f m ≡ b
