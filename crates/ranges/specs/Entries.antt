-- A message by its numbers alone: what the entries of lent ranges name in the octets of a source, with a zero for each number past an end (01, "The two
-- forms and the meaning between them": ranges). Writers say by these what they write, and `Held` (Ranges) makes of it the message that was read.
use Rattle.std.specs.Prelude.{ℕ, zero, suc, ◌+◌, ◌*◌, ◌<◌, ◌≤◌, ◌≡◌, Bool, true, false, List, [], ◌∷◌, ◌++◌, map, length, get_or}
use Rattle.octets.specs.Limits.{lines_most, chunks_most, content_most, informational_most}
use Rattle.script.specs.Do.{Piece, piece}
use Rattle.output.specs.Splice.{part}
use Rattle.messages.specs.Message.{FieldRead, prefix_octets}
use Rattle.messages.specs.Meaning.{Field, Informational, Control, request, response, Meaning, field_means, content_of}
use Rattle.messages.specs.declared.Part.{Part}
use Rattle.messages.specs.declared.PathPrefix.{PathPrefix}
use Rattle.messages.specs.declared.Record.{Record}

-- ---- what the numbers name

-- the field that the entry k names: start and length of its name, start and length of its value
abbrev pub field_in : List ℕ → List ℕ → ℕ → FieldRead
field_in s ranges k =
    record {
      name = piece (get_or ranges (k * 4) 0) (part s (get_or ranges (k * 4) 0) (get_or ranges (k * 4 + 1) 0));
      value = piece (get_or ranges (k * 4 + 2) 0) (part s (get_or ranges (k * 4 + 2) 0) (get_or ranges (k * 4 + 3) 0));
      place = get_or ranges (k * 4) 0;
    }

-- a line as an entry names it: not where it begins; its name's place stands for that
abbrev pub entry_of : FieldRead → FieldRead
entry_of f = record { name = f.name; value = f.value; place = f.name.place }

-- the fields of n entries from the entry k on
unfoldable pub fields_in : List ℕ → List ℕ → ℕ → ℕ → List FieldRead
fields_in s ranges k zero = []
fields_in s ranges k (suc n) = field_in s ranges k ∷ fields_in s ranges (k + 1) n

-- what they mean: the field of the entry k, and the fields of n entries from the entry k on
abbrev pub field_named : List ℕ → List ℕ → ℕ → Field
field_named s ranges k = field_means (field_in s ranges k)

abbrev pub fields_named : List ℕ → List ℕ → ℕ → ℕ → List Field
fields_named s ranges k n = map field_means (fields_in s ranges k n)

-- the chunk that the entry k names: start and length
abbrev pub chunk_in : List ℕ → List ℕ → ℕ → Piece
chunk_in s cs k = piece (get_or cs (k * 2) 0) (part s (get_or cs (k * 2) 0) (get_or cs (k * 2 + 1) 0))

-- the chunks of n entries from the entry k on
unfoldable pub chunks_in : List ℕ → List ℕ → ℕ → ℕ → List Piece
chunks_in s cs k zero = []
chunks_in s cs k (suc n) = chunk_in s cs k ∷ chunks_in s cs (k + 1) n

-- the octets of the first n chunks, one behind the other
abbrev pub content_in : List ℕ → List ℕ → ℕ → List ℕ
content_in s cs n = content_of (chunks_in s cs 0 n)

-- how many fields the first i informational heads have together: the fields of the head i begin at that entry
unfoldable pub fields_before : List ℕ → ℕ → ℕ
fields_before ns zero = 0
fields_before ns (suc i) = fields_before ns i + get_or ns (i * 2 + 1) 0

-- the informational head i: its status, and as many fields as its entry says
abbrev pub head_in : List ℕ → List ℕ → List ℕ → ℕ → Informational
head_in s hs ns i = record { status = get_or ns (i * 2) 0; fields = fields_named s hs (fields_before ns i) (get_or ns (i * 2 + 1) 0) }

-- n informational heads from the head i on
unfoldable pub heads_in : List ℕ → List ℕ → List ℕ → ℕ → ℕ → List Informational
heads_in s hs ns i zero = []
heads_in s hs ns i (suc n) = head_in s hs ns i ∷ heads_in s hs ns (i + 1) n

-- the octets of a part
abbrev pub part_in : List ℕ → Part → List ℕ
part_in s p = part s p.start p.len

-- the octets of a path: what is put before it, and its own
abbrev pub path_in : List ℕ → PathPrefix → Part → List ℕ
path_in s prefix p = prefix_octets prefix ++ part_in s p

-- how many they are
abbrev pub path_size : PathPrefix → Part → ℕ
path_size prefix p = length (prefix_octets prefix) + p.len

-- never more than that, since a part has less than 2^32 octets
abbrev pub path_bound : ℕ
path_bound = 4294967296

-- the control data: of a response, or of a request
abbrev pub control_in : Bool → List ℕ → Record → List ℕ → List ℕ → Control
control_in true s r hs ns = response (heads_in s hs ns 0 r.informational) r.status
control_in false s r hs ns = request (part_in s r.method) r.scheme (part_in s r.authority) (path_in s r.prefix r.path)

-- the meaning of the message that a record and ranges name in s
unfoldable pub meaning_in : List ℕ → Record → List ℕ → List ℕ → List ℕ → List ℕ → Meaning
meaning_in s r hs ns cs ts =
    record {
      control = control_in r.response s r hs ns;
      headers = fields_named s hs (fields_before ns r.informational) r.headers;
      content = content_in s cs r.chunks;
      trailers = fields_named s ts 0 r.trailers;
      stated = r.stated;
    }

-- ---- that the numbers are within a source of n octets and within the lent entries

-- a part
abbrev pub PartWithin : ℕ → Part → Type 0
PartWithin n p = p.start + p.len ≤ n

-- name and value of the entry k
pub record EntryWithin (n : ℕ) (ranges : List ℕ) (k : ℕ) : Type 0 where
  pub name : get_or ranges (k * 4) 0 + get_or ranges (k * 4 + 1) 0 ≤ n
  pub value : get_or ranges (k * 4 + 2) 0 + get_or ranges (k * 4 + 3) 0 ≤ n

-- a section of c fields from the entry k on
pub record FieldsWithin (n : ℕ) (ranges : List ℕ) (k c : ℕ) : Type 0 where
  pub entries : (k + c) * 4 ≤ length ranges
  pub few : c ≤ lines_most
  pub each : (j : ℕ) → j < c → EntryWithin n ranges (k + j)

-- the first c informational heads
pub record HeadsWithin (n : ℕ) (hs ns : List ℕ) (c : ℕ) : Type 0 where
  pub entries : c * 2 ≤ length ns
  pub few : c ≤ informational_most
  pub each : (j : ℕ) → j < c → FieldsWithin n hs (fields_before ns j) (get_or ns (j * 2 + 1) 0)

-- the first c chunks
pub record ChunksWithin (n : ℕ) (cs : List ℕ) (c : ℕ) : Type 0 where
  pub entries : c * 2 ≤ length cs
  pub few : c ≤ chunks_most
  pub each : (j : ℕ) → j < c → get_or cs (j * 2) 0 + get_or cs (j * 2 + 1) 0 ≤ n

-- a whole message by its record and ranges
pub record MessageWithin (s : List ℕ) (r : Record) (hs ns cs ts : List ℕ) : Type 0 where
  pub method : PartWithin (length s) r.method
  pub authority : PartWithin (length s) r.authority
  pub path : PartWithin (length s) r.path
  pub heads : HeadsWithin (length s) hs ns r.informational
  pub headers : FieldsWithin (length s) hs (fields_before ns r.informational) r.headers
  pub chunks : ChunksWithin (length s) cs r.chunks
  pub content : length (content_in s cs r.chunks) ≡ r.content
  pub small : r.content ≤ content_most
  pub trailers : FieldsWithin (length s) ts 0 r.trailers

-- the heads of a message, whatever its chunks and trailers
abbrev pub HeadWithin : List ℕ → Record → List ℕ → List ℕ → Type 0
HeadWithin s r hs ns = (cs : List ℕ) × (ts : List ℕ) × MessageWithin s r hs ns cs ts

-- the same of some source: what is measured by numbers alone
abbrev pub HeadCounted : Record → List ℕ → List ℕ → Type 0
HeadCounted r hs ns = (s : List ℕ) × (cs : List ℕ) × (ts : List ℕ) × MessageWithin s r hs ns cs ts

-- the first c informational heads, of some source
abbrev pub HeadsCounted : List ℕ → List ℕ → ℕ → Type 0
HeadsCounted hs ns c = (n : ℕ) × HeadsWithin n hs ns c
