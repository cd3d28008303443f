-- What the code that reads behind a header section promises, in terms of `trailers` and `after_headers` (binary/specs/Read; 01, "Binary HTTP as we take
-- it": content, trailers, padding).
use Rattle.std.specs.Prelude.{ℕ, ◌≡◌, Bool, List, length, drop, Option, Result, Ok, Err}
use Rattle.octets.specs.Refusals.{refused_at}
use Rattle.octets.specs.declared.Refused.{Refused}
use Rattle.script.specs.Do.{Piece}
use Rattle.output.specs.Splice.{splice}
use Rattle.ranges.specs.Ranges.{Stores}
use Rattle.messages.specs.Message.{FieldRead, Section, Start, Message}
use Rattle.messages.specs.Names.{kept_trailers}
use Rattle.messages.specs.Meaning.{content_of}
use Rattle.messages.specs.Answers.{fields_numbers, chunks_numbers}
use Rattle.messages.specs.declared.Counts.{Counts}
use Rattle.messages.specs.declared.Framing.{Framing}
use Rattle.binary.specs.declared.Cursor.{Cursor}
use Rattle.binary.specs.Reader.{Got, got, no}
use Rattle.binary.specs.declared.Form.{Form}
use Rattle.binary.specs.Read.{after_content, after_headers}
use Rattle.binary_parts.specs.Control.{GoesOn}
use Rattle.binary_parts.specs.declared.ContentRead.{ContentRead}
use Rattle.binary_reader.specs.declared.TrailersRead.{TrailersRead}
use Rattle.binary_reader.specs.declared.RestRead.{RestRead}

-- ---- trailers

-- trailers that were read from s into the lent ranges o: the number of kept lines, behind which the reading goes on
abbrev pub TrailersSays : List ℕ → Got (List FieldRead) → List ℕ → List ℕ → Result TrailersRead Refused → Type 0
TrailersSays s (got fs e l) o o' r =
    (r ≡ Ok (record { end = e; kept = length (kept_trailers fs) })) × Stores o 0 (fields_numbers (kept_trailers fs)) o' × GoesOn s e l
TrailersSays s (no n p) o o' r = r ≡ Err (refused_at n p)

-- the promise of trailers that are read
pub record Trailed (s : List ℕ) (x : Got (List FieldRead)) (o o' : List ℕ) (r : Result TrailersRead Refused) : Type 0 where
  pub says : TrailersSays s x o o' r

-- ---- all that stands behind a header section

-- a message that was read to the end of s behind its start and its header lines, which state a length or none: the ranges of its chunks and kept trailers,
-- and their numbers
abbrev pub RestSays : List ℕ → Option ℕ → Start → List FieldRead → Got Message → List ℕ → List ℕ → List ℕ → List ℕ → Result RestRead Refused → Type 0
RestSays s stated start lines (got m e l) cs cs' ts ts' r =
    (r ≡ Ok (record { chunks = length m.chunks; total = length (content_of m.chunks); trailers = length (kept_trailers m.trailers); long = m.long }))
    × (cs' ≡ splice cs 0 (chunks_numbers m.chunks))
    × Stores ts 0 (fields_numbers (kept_trailers m.trailers)) ts'
    × (m.start ≡ start)
    × (m.lines ≡ lines)
    × (e.at ≡ length s)
    × (m.stated ≡ stated)
RestSays s stated start lines (no n p) cs cs' ts ts' r = r ≡ Err (refused_at n p)

-- the promise of what is read to the end
pub record RestIs (s : List ℕ) (stated : Option ℕ) (start : Start) (lines : List FieldRead) (x : Got Message) (cs cs' ts ts' : List ℕ) (r : Result RestRead Refused)
    : Type 0 where
  pub says : RestSays s stated start lines x cs cs' ts ts' r

-- what stands behind content of so many chunks and octets, whatever stands before it
pub record Behind (s : List ℕ) (read : ContentRead) (form : Form) (body : Bool) (ts ts' : List ℕ) (r : Result RestRead Refused) : Type 0 where
  pub by : (stated : Option ℕ) (start : Start) (lines : List FieldRead) (c : List Piece) (cs cs' : List ℕ) → length c ≡ read.chunks → length (content_of c) ≡ read.total
      → cs' ≡ splice cs 0 (chunks_numbers c) → RestIs s stated start lines (after_content form body stated start lines c read.end (drop read.end.at s)) cs cs' ts ts' r

-- what stands behind any header section, in a message whose content must agree with f
pub record Rested (s : List ℕ) (from : Cursor) (form : Form) (body : Bool) (f : Framing) (cs cs' ts ts' : List ℕ) (r : Result RestRead Refused) : Type 0 where
  pub by : (stated : Option ℕ) (start : Start) (h : Section)
      → RestIs s stated start h.lines (after_headers form body stated start h f from (drop from.at s)) cs cs' ts ts' r

-- how much of a message of n octets was read, the length that it states, and whether its sender means to close; how many of its integers are long
abbrev pub counted : Option ℕ → Bool → ℕ → ℕ → ℕ → ℕ → ℕ → ℕ → Counts
counted stated closes fields chunks total trailers n long =
    record { headers = fields; chunks = chunks; content = total; trailers = trailers; length = n; stated = stated; long = long; closes = closes }
