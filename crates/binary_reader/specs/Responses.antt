-- What the code that reads responses promises, in terms of `response_message` (binary/specs/Read; 01, "Binary HTTP as we take it"): what a final head
-- states, and what stands behind it.
use Rattle.std.specs.Prelude.{ℕ, ◌≡◌, true, List, drop, Option, Result, Ok, Err}
use Rattle.messages.specs.Message.{Section, InformationalRead, response_start}
use Rattle.messages.specs.Rules.{binary_framing_of}
use Rattle.messages.specs.Answers.{response_record}
use Rattle.messages.specs.declared.Framing.{Framing}
use Rattle.messages.specs.declared.Record.{Record}
use Rattle.messages.specs.Answers.{Outcome}
use Rattle.octets.specs.declared.Refused.{Refused}
use Rattle.messages.specs.declared.Told.{Told}
use Rattle.binary.specs.declared.Cursor.{Cursor}
use Rattle.binary.specs.Reader.{no}
use Rattle.binary.specs.declared.Form.{Form}
use Rattle.binary.specs.Read.{after_headers, after_final}
use Rattle.binary_reader.specs.Heads.{HeadsFacts}
use Rattle.binary_reader.specs.Rest.{counted}
use Rattle.binary_reader.specs.Whole.{MessageIs}
use Rattle.binary_reader.specs.declared.HeadsRead.{HeadsRead}
use Rattle.binary_reader.specs.declared.JudgedFinal.{JudgedFinal}
use Rattle.binary_reader.specs.declared.RestRead.{RestRead}

-- ---- what a final head states

-- behind a final head of status n, at a place: content that agrees with f may follow, or none and a length may be stated, or the head is refused
abbrev pub FinalSays : Told → Form → List InformationalRead → ℕ → Section → Cursor → List ℕ → Result JudgedFinal Refused → Type 0
FinalSays t form is n h at l (Ok j) = after_final t form is n h at l ≡ after_headers form j.body j.stated (response_start is n) h j.framing at l
FinalSays t form is n h at l (Err e) = after_final t form is n h at l ≡ no e.number e.place

-- a final head of status n that ends at a place and states f: so is each section that does
pub record FinalJudged (t : Told) (n : ℕ) (f : Framing) (end : ℕ) (r : Result JudgedFinal Refused) : Type 0 where
  pub by : (form : Form) (is : List InformationalRead) (h : Section) (at : Cursor) (l : List ℕ) → h.end ≡ end → binary_framing_of h.lines ≡ f
      → FinalSays t form is n h at l r

-- ---- whole responses

-- the record of a response of n octets that was read to the end, by its numbers
abbrev pub response_counted : Option ℕ → ℕ → HeadsRead → RestRead → Record
response_counted stated n a rest =
    response_record a.count a.status (counted stated a.notes.closes a.kept rest.chunks rest.total rest.trailers n rest.long)

-- what stands behind any heads that were read
pub record FinalRead (t : Told) (s : List ℕ) (form : Form) (a : HeadsRead) (cs cs' ts ts' : List ℕ) (r : Outcome) : Type 0 where
  pub by : (is : List InformationalRead) (h : Section) → HeadsFacts s is h a
      → MessageIs true is h.lines (after_final t form is a.status h a.end (drop a.end.at s)) cs cs' ts ts' r
