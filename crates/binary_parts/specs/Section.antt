-- What the code that reads field sections promises, in terms of `section`, `known_lines` and `open_lines` (binary/specs/Read; 01, "Binary HTTP as we take it").
use Rattle.std.specs.Prelude.{ℕ, ◌+◌, ◌-◌, ◌*◌, ◌≤◌, ◌≡◌, Bool, false, List, length, take, drop, Result, Ok, Err}
use Rattle.octets.specs.Refusals.{refused_at}
use Rattle.octets.specs.declared.Refused.{Refused}
use Rattle.script.specs.Do.{Piece, Judged, good, wrong}
use Rattle.messages.specs.Message.{FieldRead, Section}
use Rattle.messages.specs.Names.{line_kind, is_end_to_end, end_to_end, kept_of}
use Rattle.messages.specs.Notes.{notes_of}
use Rattle.messages.specs.Answers.{field_numbers, fields_numbers}
use Rattle.binary.specs.Reader.{Got, got, no, cursor}
use Rattle.binary.specs.declared.Cursor.{Cursor}
use Rattle.ranges.specs.Ranges.{StoredIf, AlteredFrom, Stores}
use Rattle.ranges.specs.Connections.{Gathered}
use Rattle.binary_parts.specs.declared.LineRead.{LineRead}
use Rattle.binary_parts.specs.declared.Section as answer

-- ---- one line

-- a good line f as the code answers it, with which `count` fields are stored; the reading goes on at `end`, and so many integers are long so far
abbrev pub next_line : FieldRead → ℕ → ℕ → ℕ → LineRead
next_line f end count long = record { end = end; kept = count; kind = line_kind f; place = f.place; len = length f.value.text; long = long }

-- a line that was judged: where it is end-to-end it is stored behind the k entries of o; the reading goes on at `end`
abbrev pub JudgedSays : Judged FieldRead → ℕ → Bool → ℕ → ℕ → List ℕ → List ℕ → Result LineRead Refused → Type 0
JudgedSays (good f) end host k long o o' r =
    (count : ℕ) × (r ≡ Ok (next_line f end count long)) × StoredIf (is_end_to_end host (line_kind f)) k (field_numbers f) o o' count
JudgedSays (wrong x p) end host k long o o' r = (r ≡ Err (refused_at x p)) × (o' ≡ o)

-- what a judged line promises, as one fact
pub record JudgedLine (j : Judged FieldRead) (end : ℕ) (host : Bool) (k long : ℕ) (o o' : List ℕ) (r : Result LineRead Refused) : Type 0 where
  pub says : JudgedSays j end host k long o o' r

-- the piece v ends at the index `end` of the part s, whose first octet is at the place a
pub record EndsAt (s : List ℕ) (a end : ℕ) (v : Piece) : Type 0 where
  pub long : length v.text ≤ end
  pub place : v.place ≡ a + (end - length v.text)
  pub text : v.text ≡ take (length v.text) (drop (end - length v.text) s)

-- a line that was read in the part s, whose first octet is at the place a: the answer's `end` is counted in the part
abbrev pub LineSays : List ℕ → ℕ → Got FieldRead → Bool → ℕ → List ℕ → List ℕ → Result LineRead Refused → Type 0
LineSays s a (got f e l) host k o o' r =
    (end : ℕ)
    × (count : ℕ)
    × (r ≡ Ok (next_line f end count e.long))
    × StoredIf (is_end_to_end host (line_kind f)) k (field_numbers f) o o' count
    × EndsAt s a end f.value
    × (e.at ≡ a + end)
    × (end ≤ length s)
    × (l ≡ drop end s)
    × (e.long ≤ a + end)
LineSays s a (no x p) host k o o' r = (r ≡ Err (refused_at x p)) × (o' ≡ o)

-- what a line that was read promises, as one fact
pub record Lined (s : List ℕ) (a : ℕ) (x : Got FieldRead) (host : Bool) (k : ℕ) (o o' : List ℕ) (r : Result LineRead Refused) : Type 0 where
  pub says : LineSays s a x host k o o' r

-- ---- sections

-- the lines of a section's body, gathered behind the k entries of o; the section ends at `end`
abbrev pub BodySays : Got (List FieldRead) → ℕ → Bool → ℕ → List ℕ → List ℕ → Result answer.Section Refused → Type 0
BodySays (got fs e l) end host k o o' r =
    (r ≡ Ok (record { end = cursor end e.long; kept = k + length (end_to_end host fs); notes = notes_of false fs })) × Gathered host k fs o o' × (e.long ≤ end)
BodySays (no n p) end host k o o' r = (r ≡ Err (refused_at n p)) × AlteredFrom (k * 4) o o'

-- what the lines of a body promise, as one fact
pub record Bodied (x : Got (List FieldRead)) (end : ℕ) (host : Bool) (k : ℕ) (o o' : List ℕ) (r : Result answer.Section Refused) : Type 0 where
  pub says : BodySays x end host k o o' r

-- the reading goes on behind the section h, at e, with what is left of s
pub record Onward (s : List ℕ) (h : Section) (e : Cursor) (l : List ℕ) : Type 0 where
  pub end : h.end ≡ e.at
  pub within : e.at ≤ length s
  pub left : l ≡ drop e.at s
  pub counted : e.long ≤ e.at

-- a section that was gathered behind the k entries of o
abbrev pub GatheredSays : List ℕ → Got Section → Bool → ℕ → List ℕ → List ℕ → Result answer.Section Refused → Type 0
GatheredSays s (got h e l) host k o o' r =
    (r ≡ Ok (record { end = e; kept = k + length (end_to_end host h.lines); notes = notes_of false h.lines })) × Gathered host k h.lines o o' × Onward s h e l
GatheredSays s (no n p) host k o o' r = (r ≡ Err (refused_at n p)) × AlteredFrom (k * 4) o o'

-- what a section that was gathered promises, as one fact
pub record SectionGathered (s : List ℕ) (x : Got Section) (host : Bool) (k : ℕ) (o o' : List ℕ) (r : Result answer.Section Refused) : Type 0 where
  pub says : GatheredSays s x host k o o' r

-- a section, of headers or not, that was read behind the k entries of o
abbrev pub SectionSays : List ℕ → Got Section → Bool → Bool → ℕ → List ℕ → List ℕ → Result answer.Section Refused → Type 0
SectionSays s (got h e l) headers host k o o' r =
    (r ≡ Ok (record { end = e; kept = k + length (kept_of headers host h.lines); notes = notes_of false h.lines }))
    × Stores o (k * 4) (fields_numbers (kept_of headers host h.lines)) o'
    × Onward s h e l
SectionSays s (no n p) headers host k o o' r = (r ≡ Err (refused_at n p)) × AlteredFrom (k * 4) o o'

-- what a section that was read promises, as one fact
pub record Sectioned (s : List ℕ) (x : Got Section) (headers host : Bool) (k : ℕ) (o o' : List ℕ) (r : Result answer.Section Refused) : Type 0 where
  pub says : SectionSays s x headers host k o o' r
