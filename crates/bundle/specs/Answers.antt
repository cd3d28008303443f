-- What the code of the bundle reader promises, in terms of `walk` (Bundle; 02, item 1: "each entry's head and message range, in order").
use Rattle.std.specs.Prelude.{ℕ, ◌+◌, ◌*◌, ◌≤◌, ◌≡◌, Bool, false, cond, List, [], ◌∷◌, ◌++◌, length}
use Rattle.messages.specs.Answers.{padded}
use Rattle.messages.specs.Room.{section_room, heads_room, informational_room, chunks_room}
use Rattle.messages.specs.Message.{Message}
use Rattle.messages.specs.Meaning.{meaning}
use Rattle.messages.specs.declared.Record.{Record}
use Rattle.ranges.specs.Ranges.{Held}
use Rattle.binary_writer.specs.Write.{to_binary}
use Rattle.octets.specs.Limits.{binary_most, entries_most}
use Rattle.output.specs.Splice.{splice, part, lies_within, Put, PutIf}
use Rattle.bundle.specs.Bundle.{Entry, word_of, is_written, Walk, list_octets}
use Rattle.bundle.specs.declared.Bundle.{Bundle}

-- an entry at a place: its head, and start and length of its message
abbrev pub entry_numbers : ℕ → Entry → List ℕ
entry_numbers at e = word_of e.head ∷ (at + 4) ∷ length e.text ∷ []

-- entries from a place on, in order
unfoldable pub numbers_from : ℕ → List Entry → List ℕ
numbers_from at [] = []
numbers_from at (e ∷ es) = entry_numbers at e ++ numbers_from (at + (4 + length e.text)) es

-- how many numbers all entries of a bundle take
abbrev pub entries_room : ℕ
entries_room = entries_most * 3

-- a walk by value: how many entries it has and where, where it ends, and the number that stopped it
abbrev pub bundle_of : Walk → Bundle
bundle_of w = record { count = length w.entries; end = w.end; number = w.stop; numbers = padded entries_room (numbers_from 0 w.entries) }

-- a walk that was lent o leaves o' and answers so many entries, an end and a number
pub record Walked (w : Walk) (o o' : List ℕ) (count end number : ℕ) : Type 0 where
  pub counted : count ≡ length w.entries
  pub ended : end ≡ w.end
  pub stopped : number ≡ w.stop
  pub stored : o' ≡ splice o 0 (numbers_from 0 w.entries)

-- what is lent to judge a message: room for its ranges, and for what is written of it
abbrev pub Lent : List ℕ → List ℕ → List ℕ → List ℕ → List ℕ → Type 0
Lent hs ns cs ts scratch =
    (heads_room ≤ length hs) × (informational_room ≤ length ns) × (chunks_room ≤ length cs) × (section_room ≤ length ts)
    × (binary_most ≤ length scratch)

-- n octets of s from a place on, put into o from w on if they are picked and there is room
abbrev pub PickedPut : Bool → List ℕ → ℕ → ℕ → List ℕ → ℕ → List ℕ → ℕ → Type 0
PickedPut picked s at n o w o' r = PutIf (cond picked (cond (lies_within s at n) (lies_within o w n) false) false) o w (part s at n) n o' r

-- the list of a flock, put into o from its first octet on
abbrev pub ListPut : ℕ → Walk → List ℕ → List ℕ → ℕ → Type 0
ListPut f w o o' r = Put o 0 (list_octets f w) (length (list_octets f w)) o' r

-- whatever message the record and the ranges hold: whether its octets s are in form
pub record FormJudged (s : List ℕ) (r : Record) (hs ns cs ts : List ℕ) (b : Bool) : Type 0 where
  pub by : (n : ℕ) (m : Message) → Held s n m r hs ns cs ts → b ≡ is_written (to_binary (meaning m)) s
