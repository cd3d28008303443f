-- What the entries for C leave and answer (01, "The two forms and the meaning between them": readers and writers are called with numbers and byte slices;
-- "Numbers a call answers with"; 02, item 5). include/ospirnar.h has the layout.
use Rattle.std.specs.Prelude.{ℕ, ◌+◌, ◌*◌, ◌/◌, ◌%◌, ◌≡◌, Bool, true, cond, List, [], ◌∷◌, ◌++◌, leb, length, get_or, replicate, Option, Some, None}
use Rattle.octets.specs.Limits.{lines_most, informational_most}
use Rattle.octets.specs.Refusals.{no_room}
use Rattle.script.specs.Script.{Answer, accepted, refused, more}
use Rattle.output.specs.Splice.{splice, part}
use Rattle.output.specs.Reply.{Reply, written_of, lent_after, written_number, written_place}
use Rattle.messages.specs.Message.{Message}
use Rattle.messages.specs.Room.{informational_room}
use Rattle.messages.specs.Answers.{chunks_numbers, informational_numbers, informational_in, padded, record_of, reading_of, number_of, place_of}
use Rattle.messages.specs.declared.Part.{Part}
use Rattle.messages.specs.declared.Record.{Record}
use Rattle.messages.specs.declared.PathPrefix.{PathPrefix}
use Rattle.messages.specs.declared.PathPrefix.TheVariants as prefix
use Rattle.ranges.specs.Ranges.{head_numbers, trailer_numbers}
use Rattle.turn.specs.Turn.{taken_from}
use Rattle.messages.specs.declared.Span.{Span}
use Rattle.turn.specs.Question.{found_part, lent_number, lent_place}
use Rattle.question.specs.Asking.{Asked}

-- place and length of a part
abbrev pub part_numbers : Part → List ℕ
part_numbers p = p.start ∷ p.len ∷ []

-- kind, scheme and the three parts of control data
abbrev pub control_numbers : Record → List ℕ
control_numbers r = (cond r.response 1 0 ∷ r.scheme ∷ []) ++ part_numbers r.method ++ part_numbers r.authority ++ part_numbers r.path

-- status and counts
abbrev pub count_numbers : Record → List ℕ
count_numbers r = (r.status ∷ r.informational ∷ []) ++ (r.headers ∷ r.chunks ∷ []) ++ (r.content ∷ r.trailers ∷ [])

-- one above the largest number of 32 bits
abbrev pub word_end : ℕ
word_end = 4294967296

-- what is put before a path: nothing, a slash, an asterisk
abbrev pub prefix_number : PathPrefix → ℕ
prefix_number prefix.Nothing = 0
prefix_number prefix.Slash = 1
prefix_number prefix.Asterisk = 2

-- what is put before the path; a stated length: whether there is one, then its low and its high 32 bits; then how many integers are long, and whether the sender
-- means to close
abbrev pub stated_numbers : ℕ → Option ℕ → ℕ → ℕ → List ℕ
stated_numbers before None long closes = (before ∷ 0 ∷ []) ++ (0 ∷ 0 ∷ []) ++ (long ∷ closes ∷ [])
stated_numbers before (Some n) long closes = (before ∷ 1 ∷ []) ++ (n % word_end ∷ n / word_end ∷ []) ++ (long ∷ closes ∷ [])

-- the numbers of a record, but for the message's length
unfoldable pub record_numbers : Record → List ℕ
record_numbers r = control_numbers r ++ count_numbers r ++ stated_numbers (prefix_number r.prefix) r.stated r.long (cond r.closes 1 0)

-- how many numbers control data have, the status and the counts, a stated length with what is kept beside it, and a record
abbrev pub control_count : ℕ
control_count = 8

abbrev pub counts_count : ℕ
counts_count = 6

abbrev pub stated_count : ℕ
stated_count = 6

abbrev pub record_count : ℕ
record_count = control_count + counts_count + stated_count

-- with those of the informational heads
abbrev pub start_count : ℕ
start_count = record_count + informational_room

-- how many fields all heads of a response have at most
abbrev pub fields_most : ℕ
fields_most = (informational_most + 1) * lines_most

-- what stands before the lists, by the record and by the numbers of the informational heads
abbrev pub start_numbers : Record → List ℕ → List ℕ
start_numbers r ns = record_numbers r ++ part ns 0 informational_room

-- the lists: so many numbers of header fields, of chunks and of trailer fields
abbrev pub list_numbers : List ℕ → ℕ → List ℕ → ℕ → List ℕ → ℕ → List ℕ
list_numbers hs h cs c ts k = part hs 0 h ++ part cs 0 c ++ part ts 0 k

-- the numbers that describe an accepted message of length n, one behind the other
unfoldable pub entry_numbers : ℕ → Message → List ℕ
entry_numbers n m =
    (record_numbers (record_of n m) ++ padded informational_room (informational_numbers (informational_in m.start)))
    ++ (head_numbers m ++ chunks_numbers m.chunks ++ trailer_numbers m)

-- ---- the answer of a reading entry that was lent ranges o, on an input of so many octets

-- whether what describes the message fits into the lent ranges; a refusal and a call for more describe none
abbrev pub entry_fits : List ℕ → Answer Message → Bool
entry_fits o (accepted n m) = leb (length (entry_numbers n m)) (length o)
entry_fits o (refused k p) = true
entry_fits o more = true

-- 01's number for the reader's outcome; 13 where the numbers do not fit
abbrev pub entry_number : List ℕ → Answer Message → ℕ
entry_number o x = cond (entry_fits o x) (number_of (reading_of x).outcome) no_room

-- the message's length, or the refusal's place; 0 where the numbers do not fit
abbrev pub entry_place : List ℕ → ℕ → Answer Message → ℕ
entry_place o input x = cond (entry_fits o x) (place_of input (reading_of x).outcome) 0

-- the ranges afterwards: a refusal and a call for more alter none
abbrev pub entry_after : List ℕ → Answer Message → List ℕ
entry_after o (accepted n m) = cond (leb (length (entry_numbers n m)) (length o)) (splice o 0 (entry_numbers n m)) o
entry_after o (refused k p) = o
entry_after o more = o

-- the three together
pub record Entered (x : Answer Message) (input : ℕ) (o o' : List ℕ) (place number : ℕ) : Type 0 where
  pub answers : number ≡ entry_number o x
  pub places : place ≡ entry_place o input x
  pub after : o' ≡ entry_after o x

-- ---- what the code answers with, by numbers

-- numbers bs of a message of length n, in lent ranges o
pub record Numbered (bs : List ℕ) (n : ℕ) (o o' : List ℕ) (place number : ℕ) : Type 0 where
  pub answers : number ≡ cond (leb (length bs) (length o)) 0 no_room
  pub places : place ≡ cond (leb (length bs) (length o)) n 0
  pub after : o' ≡ cond (leb (length bs) (length o)) (splice o 0 bs) o

-- the ranges of informational heads before any is read
unfoldable pub no_heads : List ℕ
no_heads = replicate informational_room 0

-- how many fields the informational heads have, by their numbers
unfoldable pub heads_fields : List ℕ → ℕ
heads_fields l = get_or l 1 0 + get_or l 3 0 + get_or l 5 0 + get_or l 7 0

-- ---- the answer of a writing entry that was lent octets o, where y is to be written

-- 01's number, the length written or the refusal's place, and the octets afterwards: a refusal alters none
pub record EntryServed (y : Reply) (o o' : List ℕ) (place number : ℕ) : Type 0 where
  pub answers : number ≡ written_number (written_of y (length o))
  pub places : place ≡ written_place (written_of y (length o))
  pub after : o' ≡ lent_after y o

-- the same of a turning off a stream, where x is the reader's answer: it says too how many octets of the stream it took
pub record EntryTaken (x : Answer Message) (y : Reply) (o o' : List ℕ) (taken place number : ℕ) : Type 0 where
  pub served : EntryServed y o o' place number
  pub takes : taken ≡ taken_from x (written_of y (length o))

-- ---- the answer of a field entry; C can't be handed a slice back, so start and length stand for the part of the message

-- whether a part was found (1) or the default is meant (0)
abbrev pub field_answer : Option Span → ℕ
field_answer (Some w) = 1
field_answer None = 0

-- where the part starts, 0 for the default
abbrev pub field_start : Option Span → ℕ
field_start (Some w) = w.start
field_start None = 0

-- how long it is, 0 for the default
abbrev pub field_length : Option Span → ℕ
field_length (Some w) = w.len
field_length None = 0

-- the five together, where the inner call answers a
pub record FieldEntered (a : Asked) (number place start len answer : ℕ) : Type 0 where
  pub answers : answer ≡ field_answer (found_part a)
  pub starts : start ≡ field_start (found_part a)
  pub lengths : len ≡ field_length (found_part a)
  pub numbers : number ≡ lent_number a
  pub places : place ≡ lent_place a
