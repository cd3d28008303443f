-- What the code that reads sections promises, in terms of the script `section` (http1_lines/specs/Read; 01, "HTTP/1.1 as we take it": field lines).
use Rattle.std.specs.Prelude.{ℕ, ◌+◌, ◌*◌, ◌≤◌, ◌≡◌, Bool, true, false, cond, List, leb, length, take, drop, Result, Ok, Err}
use Rattle.octets.specs.Limits.{lines_most}
use Rattle.octets.specs.Refusals.{bad_syntax, too_large, refused_at}
use Rattle.script.specs.Script.{Answer, accepted, refused, more}
use Rattle.script.specs.Do.{piece}
use Rattle.messages.specs.Message.{FieldRead}
use Rattle.messages.specs.Room.{section_room}
use Rattle.messages.specs.Names.{line_kind, is_end_to_end, kept, kept_of}
use Rattle.messages.specs.Notes.{notes_of}
use Rattle.messages.specs.Answers.{field_numbers, fields_numbers}
use Rattle.messages.specs.declared.Stop.{Stop}
use Rattle.http1_lines.specs.Read.{Lines}
use Rattle.ranges.specs.Ranges.{StoredIf, AlteredFrom, Stores}
use Rattle.ranges.specs.Connections.{Gathered}
use Rattle.http1_parts.specs.declared.LineRead.{LineRead}
use Rattle.http1_parts.specs.declared.Section.{Section}

-- ---- the lent space: a field takes four numbers

-- room for one field more behind k of them
abbrev pub FieldRoom : ℕ → List ℕ → Type 0
FieldRoom k o = k * 4 + 4 ≤ length o

-- room for a section behind k fields
abbrev pub SectionRoom : ℕ → List ℕ → Type 0
SectionRoom k o = k * 4 + section_room ≤ length o

-- ---- lines

-- a line that is no field line, behind so many lines: a 65th is refused before it is judged
unfoldable pub no_field : ℕ → ℕ
no_field lines = cond (leb lines_most lines) too_large bad_syntax

-- a field line of s at the place i, by places and lengths: its name has n octets from there on, its value l from v on
abbrev pub line_at : List ℕ → ℕ → ℕ → ℕ → ℕ → FieldRead
line_at s i n v l = record { name = piece i (take n (drop i s)); value = piece v (take l (drop v s)); place = i }

-- a line's value ends at or before n
abbrev pub Before : ℕ → FieldRead → Type 0
Before n f = f.value.place + length f.value.text ≤ n

-- a line that was taken: where it is end-to-end it is stored behind the k entries of o
pub record LineTaken (f : FieldRead) (host : Bool) (k : ℕ) (o o' : List ℕ) (r : LineRead) : Type 0 where
  pub kind : r.kind ≡ line_kind f
  pub stored : StoredIf (is_end_to_end host (line_kind f)) k (field_numbers f) o o' r.kept

-- lines that were read behind the k fields of o, in o': what is kept of a header section; of another section all that is end-to-end, with the values of Connection
-- lines beside it
abbrev pub LinesStored : Bool → Bool → ℕ → List FieldRead → List ℕ → List ℕ → Type 0
LinesStored true host k fs o o' = Stores o (k * 4) (fields_numbers (kept host fs)) o'
LinesStored false host k fs o o' = Gathered host k fs o o'

-- a section, of headers or not, that was read behind the k entries of o
abbrev pub SectionSays : Answer Lines → Bool → Bool → ℕ → List ℕ → List ℕ → Result Section Stop → Type 0
SectionSays (accepted n h) headers host k o o' r =
    (r ≡ Ok (record { end = h.end; left = h.left; kept = k + length (kept_of headers host h.lines); notes = notes_of true h.lines }))
    × LinesStored headers host k h.lines o o'
SectionSays (refused x p) headers host k o o' r = (r ≡ Err (Stop.Refused (refused_at x p))) × AlteredFrom (k * 4) o o'
SectionSays more headers host k o o' r = (r ≡ Err Stop.More) × AlteredFrom (k * 4) o o'

-- the promise of a section that is read
pub record Sectioned (x : Answer Lines) (headers host : Bool) (k : ℕ) (o o' : List ℕ) (r : Result Section Stop) : Type 0 where
  pub says : SectionSays x headers host k o o' r
