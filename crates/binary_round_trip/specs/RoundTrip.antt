-- What is written as Binary HTTP is read back (00, demand 2: "Turning a message from either form into the other keeps its meaning: control data,
-- fields in order, content and trailers"; 01, "How we write"; 02, item 5: "Demand 2 includes it").
use Rattle.std.specs.Prelude.{◌≡◌, true, List, [], ◌∷◌, ◌++◌, ℕ, ◌+◌, length}
use Rattle.numbers.specs.Integer.{int_bytes}
use Rattle.script.specs.Script.{accepted, means}
use Rattle.script.specs.Do.{Piece, piece}
use Rattle.messages.specs.Message.{FieldRead, InformationalRead, Start, request_start, response_start, Message, non_empty, whole_path}
use Rattle.messages.specs.Meaning.{Field, Informational, Control, request, response, Meaning, meaning, stated_fields}
use Rattle.messages.specs.Valid.{valid, suits}
use Rattle.messages.specs.declared.Told.{Told}
use Rattle.messages.specs.Told.{in_edition}
use Rattle.binary.specs.Read.{read_binary}
use Rattle.binary_writer.specs.Write.{counted, field_bytes, fields_bytes, section_bytes, scheme_bytes, control_bytes, binary_of, binary_fits}

-- ---- where each part of a written message stands

-- a part whose length is written at the place `at`
abbrev pub counted_at : ℕ → List ℕ → Piece
counted_at at w = piece (at + length (int_bytes (length w))) w

-- a field line: its name, and behind it its value
abbrev pub line_at : ℕ → Field → FieldRead
line_at at f = record { name = counted_at at f.name; value = counted_at (at + length (counted f.name)) f.value; place = at }

-- one line behind the other
unfoldable pub lines_at : ℕ → List Field → List FieldRead
lines_at at [] = []
lines_at at (f ∷ fs) = line_at at f ∷ lines_at (at + length (field_bytes f)) fs

-- the lines of a section whose length is written at the place `at`
abbrev pub section_at : ℕ → List Field → List FieldRead
section_at at fs = lines_at (at + length (int_bytes (length (fields_bytes fs)))) fs

-- an informational head: its status, and behind it its section
abbrev pub head_at : ℕ → Informational → InformationalRead
head_at at h = record { status = h.status; lines = section_at (at + length (int_bytes h.status)) h.fields }

-- one head behind the other
unfoldable pub heads_at : ℕ → List Informational → List InformationalRead
heads_at at [] = []
heads_at at (h ∷ hs) = head_at at h ∷ heads_at (at + length (int_bytes h.status ++ section_bytes h.fields)) hs

-- control data behind the framing, which is one octet
unfoldable pub start_of : Control → Start
start_of (request m s a p) =
    request_start (counted_at 1 m) s (counted_at (1 + length (counted m) + length (counted (scheme_bytes s))) a)
    (whole_path (counted_at (1 + length (counted m) + length (counted (scheme_bytes s)) + length (counted a)) p))
start_of (response hs s) = response_start (heads_at 1 hs) s

-- the lines of the final header: a stated length goes first
abbrev pub header_of : Meaning → List Field
header_of m = stated_fields m.stated ++ m.headers

-- headers, content and trailers from the place `at` on
unfoldable pub placed_from : Start → ℕ → Meaning → Message
placed_from start at m =
    record {
      start = start;
      lines = section_at at (header_of m);
      chunks = non_empty (counted_at (at + length (section_bytes (header_of m))) m.content);
      trailers = section_at (at + length (section_bytes (header_of m)) + length (counted m.content)) m.trailers;
      stated = m.stated;
      long = 0;
    }

-- the message that the reader takes from what is written
unfoldable pub placed_binary : Meaning → Message
placed_binary m = placed_from (start_of m.control) (length (control_bytes m.control)) m

-- ---- the claims

-- we write RFC 9292, whatever edition was read (02, item 7): a meaning that can be read, written within the size of a Binary input, is read to its last octet,
-- told t otherwise, and the message read has that meaning
abbrev pub ReadsBack : Told → Meaning → Type 0
ReadsBack t m = (read_binary (in_edition 0 t) (binary_of m) ≡ accepted (length (binary_of m)) (placed_binary m)) × (meaning (placed_binary m) ≡ m)

-- every meaning that can be read by a reader told so and fits is read back
abbrev pub RoundTrip : Type 0
RoundTrip = (t : Told) (m : Meaning) → valid m ≡ true → suits t m ≡ true → binary_fits m ≡ true → ReadsBack t m

-- the same without places
abbrev pub RoundTripOfMeanings : Type 0
RoundTripOfMeanings =
    (t : Told) (m : Meaning) → valid m ≡ true → suits t m ≡ true → binary_fits m ≡ true
    → means meaning (read_binary (in_edition 0 t) (binary_of m)) ≡ accepted (length (binary_of m)) m

-- the total of what we write is zero (02, item 8): read again, no integer of it is long
abbrev pub WrittenShortest : Type 0
WrittenShortest =
    (t : Told) (m : Meaning) → valid m ≡ true → suits t m ≡ true → binary_fits m ≡ true
    → (n : ℕ) (x : Message) → read_binary (in_edition 0 t) (binary_of m) ≡ accepted n x → x.long ≡ 0

-- equal octets are equal meanings, whatever a reader of either is told: where one of them states a length, its line is in both, and no kept field is one
abbrev pub Unique : Type 0
Unique = (l m : Meaning) → valid l ≡ true → binary_fits l ≡ true → valid m ≡ true → binary_fits m ≡ true → binary_of l ≡ binary_of m → l ≡ m
