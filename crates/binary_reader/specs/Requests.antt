-- What the code that reads requests promises, in terms of `request_message` (binary/specs/Read; 01, "Binary HTTP as we take it").
use Rattle.std.specs.Prelude.{ℕ, ◌≡◌, Bool, false, List, [], length, drop, None, Result, Ok, Err}
use Rattle.script.specs.Do.{Piece, piece, Judged, good, wrong}
use Rattle.messages.specs.Message.{FieldRead, Section, Message}
use Rattle.messages.specs.Names.{kept}
use Rattle.messages.specs.Answers.{part_at, request_record}
use Rattle.messages.specs.declared.PathPrefix.TheVariants as prefix
use Rattle.messages.specs.Notes.{notes_of, AllLie}
use Rattle.messages.specs.Rules.{authority_in, binary_framing_of, may_state}
use Rattle.messages.specs.declared.Framing.{Framing}
use Rattle.messages.specs.declared.Notes.{Notes}
use Rattle.messages.specs.declared.Part.{Part}
use Rattle.messages.specs.declared.Record.{Record}
use Rattle.messages.specs.Answers.{Outcome}
use Rattle.octets.specs.declared.Refused.{Refused}
use Rattle.binary.specs.Reader.{Got}
use Rattle.binary.specs.declared.Form.{Form}
use Rattle.binary.specs.Read.{RequestControl, after_head, message_answer}
use Rattle.ranges.specs.Ranges.{Responded}
use Rattle.binary_parts.specs.Control.{piece_of, Inside}
use Rattle.messages.specs.declared.Span.{Span}
use Rattle.binary_reader.specs.Rest.{counted}
use Rattle.binary_reader.specs.Whole.{MessageIs}
use Rattle.binary_parts.specs.declared.ControlRead.{ControlRead}
use Rattle.binary_parts.specs.declared.Section as answer
use Rattle.binary_reader.specs.declared.RestRead.{RestRead}

-- ---- the rules of a head

-- both rules of a request's head: host first, then length
abbrev pub both_rules : Judged Piece → Judged Framing → Judged Framing
both_rules (good a) f = f
both_rules (wrong n p) f = wrong n p

-- a head judged by its two rules: the authority's place and length, and the length that is stated
abbrev pub HeadSays : Judged Piece → Judged Framing → Framing → Result Span Refused → Type 0
HeadSays a b f (Ok found) = (w : List ℕ) × (a ≡ good (piece found.start w)) × (length w ≡ found.len) × (b ≡ good f)
HeadSays a b f (Err e) = both_rules a b ≡ wrong e.number e.place

-- the authority lies in the input
abbrev pub HeadLies : List ℕ → Result Span Refused → Type 0
HeadLies s (Ok found) = Inside s found
HeadLies s (Err e) = Unit {0}

-- a head that ends at a place, judged by notes: so are all lines in s of which these are the notes
pub record HeadJudged (s : List ℕ) (authority : Span) (end : ℕ) (notes : Notes) (r : Result Span Refused) : Type 0 where
  pub by : (lines : List FieldRead) → notes ≡ notes_of false lines → AllLie s lines
      → HeadSays (authority_in end (piece_of s authority) lines) (may_state end (binary_framing_of lines)) notes.framing r
  pub lies : HeadLies s r

-- ---- the record

-- the part that a span names
abbrev pub part_is : Span → Part
part_is a = part_at a.start a.len

-- the record of a request of n octets that was read to the end, by its numbers
abbrev pub request_counted : ℕ → ControlRead → Span → ℕ → Bool → RestRead → Record
request_counted n c authority fields closes rest =
    request_record c.scheme (part_is c.method) (part_is authority) prefix.Nothing (part_is c.path)
    (counted None closes fields rest.chunks rest.total rest.trailers n rest.long)

-- ---- behind the head

-- a header section that was read, in the numbers that the code keeps of it
pub record HeadFacts (s : List ℕ) (h : Section) (head : answer.Section) : Type 0 where
  pub end : h.end ≡ head.end.at
  pub fields : length (kept false h.lines) ≡ head.kept
  pub noted : head.notes ≡ notes_of false h.lines
  pub lie : AllLie s h.lines

-- what stands behind any header section that was read up to a place
pub record RequestRest (s : List ℕ) (form : Form) (q : RequestControl) (head : answer.Section) (cs cs' ts ts' : List ℕ) (r : Outcome) : Type 0 where
  pub by : (h : Section) → HeadFacts s h head → MessageIs false [] h.lines (after_head form q h head.end (drop head.end.at s)) cs cs' ts ts' r

-- ---- whole requests

-- a request that was read: as a message that might be a response; it has no informational heads, so the ranges lent for them stay as they are
pub record Requested (x : Got Message) (hs hs' cs cs' ts ts' : List ℕ) (r : Outcome) : Type 0 where
  pub by : (ns : List ℕ) → Responded (message_answer x) hs hs' ns ns cs cs' ts ts' r
