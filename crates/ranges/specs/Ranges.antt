-- The ranges of a message in lent arrays of numbers (01, "The two forms and the meaning between them": ranges name control data, fields and content
-- chunks): what a reader leaves there, and what a writer finds there.
use Rattle.std.specs.Prelude.{ℕ, ◌+◌, ◌-◌, ◌*◌, ◌≤◌, ◌<◌, ◌≡◌, Bool, cond, List, ◌++◌, length, take, replicate}
use Rattle.octets.specs.Limits.{lines_most, chunks_most, content_most, informational_most, binary_most}
use Rattle.script.specs.Script.{Answer, accepted, refused, more, Lies}
use Rattle.output.specs.Splice.{splice}
use Rattle.output.specs.Reply.{Reply, Served, Written}
use Rattle.messages.specs.Message.{InformationalRead, is_response, Message}
use Rattle.messages.specs.Meaning.{Meaning, meaning}
use Rattle.messages.specs.Names.{kept, kept_trailers}
use Rattle.messages.specs.Room.{informational_room}
use Rattle.messages.specs.Answers.{fields_numbers, chunks_numbers, informational_numbers, informational_lines, informational_in, record_of, reading_of}
use Rattle.messages.specs.Answers.{Outcome}
use Rattle.std.specs.Prelude.{Ok, Err}
use Rattle.messages.specs.declared.Stop.{Stop}
use Rattle.octets.specs.Refusals.{refused_at}
use Rattle.messages.specs.declared.Record.{Record}
use Rattle.messages.specs.declared.Ranges.{Ranges}
use Rattle.messages.specs.declared.Reading.{Reading}
use Rattle.sound.specs.Sound.{Sound}
use Rattle.ranges.specs.Entries.{fields_before}

-- every place in a message is below this (01, "Sizes": heads, chunk lines, content and trailers together are far below)
abbrev pub places_end : ℕ
places_end = 4294967296

-- the numbers of a field are stored as the entry k of o, or nothing is
pub record StoredIf (keeps : Bool) (k : ℕ) (numbers o o' : List ℕ) (r : ℕ) : Type 0 where
  pub count : r ≡ cond keeps (k + 1) k
  pub stored : o' ≡ cond keeps (splice o (k * 4) numbers) o

-- ---- what a reader leaves

-- o' is o, altered from the place a on alone
pub record AlteredFrom (a : ℕ) (o o' : List ℕ) : Type 0 where
  pub before : take a o' ≡ take a o
  pub size : length o' ≡ length o

-- the numbers l stand in o' from the place a on, which is o before it. Behind l there may be anything: numbers of fields that were dropped
pub record Stores (o : List ℕ) (a : ℕ) (l o' : List ℕ) : Type 0 where
  pub altered : AlteredFrom a o o'
  pub lies : Lies o' a l

-- the numbers of all kept fields of the heads, those of informational heads first
abbrev pub head_numbers : Message → List ℕ
head_numbers m = fields_numbers (informational_lines (informational_in m.start) ++ kept (is_response m.start) m.lines)

-- the numbers of the kept trailer fields
abbrev pub trailer_numbers : Message → List ℕ
trailer_numbers m = fields_numbers (kept_trailers m.trailers)

-- an answer, and the ranges of an accepted message in the lent space: hs of header fields, cs of chunks, ts of trailer fields
abbrev pub OutcomeSays : Answer Message → List ℕ → List ℕ → List ℕ → List ℕ → List ℕ → List ℕ → Outcome → Type 0
OutcomeSays (accepted n m) hs hs' cs cs' ts ts' r =
    (r ≡ Ok (record_of n m)) × Stores hs 0 (head_numbers m) hs' × (cs' ≡ splice cs 0 (chunks_numbers m.chunks))
    × Stores ts 0 (trailer_numbers m) ts'
OutcomeSays (refused k p) hs hs' cs cs' ts ts' r = r ≡ Err (Stop.Refused (refused_at k p))
OutcomeSays more hs hs' cs cs' ts ts' r = r ≡ Err Stop.More

-- the promise of a reader of requests, which was lent hs, cs and ts
pub record Outcomed (x : Answer Message) (hs hs' cs cs' ts ts' : List ℕ) (r : Outcome) : Type 0 where
  pub says : OutcomeSays x hs hs' cs cs' ts ts' r

-- status and number of kept fields of each informational head of an accepted message, in the lent space
abbrev pub InformationalSays : Answer Message → List ℕ → List ℕ → Type 0
InformationalSays (accepted n m) ns ns' = ns' ≡ splice ns 0 (informational_numbers (informational_in m.start))
InformationalSays (refused k p) ns ns' = Unit {0}
InformationalSays more ns ns' = Unit {0}

-- any informational heads
abbrev pub AnyHeads : List InformationalRead → Type 0
AnyHeads is = Unit {0}

-- fewer than there may be
abbrev pub FewHeads : List InformationalRead → Type 0
FewHeads is = length is < informational_most

-- n of them
abbrev pub SoManyHeads : ℕ → List InformationalRead → Type 0
SoManyHeads n is = length is ≡ n

-- the promise of a reader of messages that may be responses, which was lent ns too, for the informational heads
pub record Responded (x : Answer Message) (hs hs' ns ns' cs cs' ts ts' : List ℕ) (r : Outcome) : Type 0 where
  pub says : OutcomeSays x hs hs' cs cs' ts ts' r
  pub informational : InformationalSays x ns ns'

-- ranges by their four lists
abbrev pub ranges_with : List ℕ → List ℕ → List ℕ → List ℕ → Ranges
ranges_with ns hs ts cs = record { informational = ns; headers = hs; trailers = ts; chunks = cs }

-- the counts of a record are within the sizes
pub record SmallRecord (r : Record) : Type 0 where
  pub heads : r.informational ≤ informational_most
  pub headers : r.headers ≤ lines_most
  pub chunks : r.chunks ≤ chunks_most
  pub content : r.content ≤ content_most
  pub trailers : r.trailers ≤ lines_most
  pub long : r.long ≤ binary_most

-- the counts of a message are within the ranges ns of informational heads that a reader left, and within the sizes; only a message has counts
abbrev pub CountsWithin : Outcome → List ℕ → Type 0
CountsWithin (Ok r) ns = SmallRecord r × (informational_room ≤ length ns) × (fields_before ns r.informational ≤ informational_most * lines_most)
CountsWithin (Err e) ns = Unit {0}

-- o with zeros from the place n on
abbrev pub cleared_from : ℕ → List ℕ → List ℕ
cleared_from n o = take n o ++ replicate (length o - n) 0

-- a reader's answer by value, from its outcome and the ranges that it left: informational heads, header fields, trailer fields, chunks
abbrev pub reading_from : Outcome → List ℕ → List ℕ → List ℕ → List ℕ → Reading
reading_from (Ok r) ns hs ts cs =
    record {
      outcome = Ok r;
      ranges = ranges_with ns (cleared_from ((fields_before ns r.informational + r.headers) * 4) hs) (cleared_from (r.trailers * 4) ts) cs;
    }
reading_from (Err (Stop.Refused e)) ns hs ts cs = reading_of (refused e.number e.place)
reading_from (Err Stop.More) ns hs ts cs = reading_of more

-- ---- what a writer finds

-- the numbers l stand at the front of o
pub record Begins (l o : List ℕ) : Type 0 where
  pub others : List ℕ
  pub split : o ≡ l ++ others

-- a message m of length n that was accepted from s, by its record and its ranges
pub record Held (s : List ℕ) (n : ℕ) (m : Message) (r : Record) (hs ns cs ts : List ℕ) : Type 0 where
  pub sound : Sound s m
  pub numbers : r ≡ record_of n m
  pub fields : Begins (head_numbers m) hs
  pub informational : Begins (informational_numbers (informational_in m.start)) ns
  pub chunks : Begins (chunks_numbers m.chunks) cs
  pub trailers : Begins (trailer_numbers m) ts

-- ---- what a writer promises

-- a writer that was lent o leaves o' and answers w: whatever message the record and the ranges hold, its meaning is served as `reply` says
pub record HeldServed (reply : Meaning → Reply) (s : List ℕ) (r : Record) (hs ns cs ts o o' : List ℕ) (w : Written) : Type 0 where
  pub by : (n : ℕ) (m : Message) → Held s n m r hs ns cs ts → Served (reply (meaning m)) o o' w
