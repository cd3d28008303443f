-- What the code that reads content and padding promises, in terms of `content`, `open_chunks` and `padding` (binary/specs/Read; 01, "Binary HTTP as we take
-- it", "Sizes").
use Rattle.std.specs.Prelude.{ℕ, suc, ◌+◌, ◌≤◌, ◌<◌, ◌≡◌, List, [], ◌∷◌, ◌++◌, length, take, drop, Result, Ok, Err}
use Rattle.octets.specs.Limits.{chunks_most, content_most}
use Rattle.octets.specs.Refusals.{bad_padding, refused_at}
use Rattle.octets.specs.declared.Refused.{Refused}
use Rattle.script.specs.Do.{Piece, piece}
use Rattle.output.specs.Splice.{splice}
use Rattle.messages.specs.Meaning.{content_of}
use Rattle.messages.specs.Answers.{chunks_numbers}
use Rattle.binary.specs.declared.Cursor.{Cursor}
use Rattle.binary.specs.Reader.{Got, got, no, cursor}
use Rattle.binary.specs.Read.{open_chunks}
use Rattle.binary_parts.specs.Control.{GoesOn}
use Rattle.binary_parts.specs.declared.Chunk.{Chunk}
use Rattle.binary_parts.specs.declared.Chunk.TheVariants as chunk
use Rattle.binary_parts.specs.declared.ContentRead.{ContentRead}

-- ---- content

-- where the chunks go on: x is what the reader gets that stood before the chunk, behind chunks cs of so many octets in all
abbrev pub ChunkSays : List ℕ → ℕ → List Piece → ℕ → Got (List Piece) → Result Chunk Refused → Type 0
ChunkSays s f cs total x (Ok (chunk.Next start len long)) =
    x ≡ open_chunks f (cs ++ piece start (take len (drop start s)) ∷ []) (total + len) (cursor (start + len) long) (drop (start + len) s)
ChunkSays s f cs total x (Ok (chunk.Last end)) = x ≡ got cs end (drop end.at s)
ChunkSays s f cs total x (Err e) = x ≡ no e.number e.place

-- where a chunk or the end of the content lies
abbrev pub ChunkLies : List ℕ → ℕ → ℕ → Result Chunk Refused → Type 0
ChunkLies s count total (Ok (chunk.Next start len long)) = (start + len ≤ length s) × (total + len ≤ content_most) × (count < chunks_most) × (long ≤ start + len)
ChunkLies s count total (Ok (chunk.Last end)) = (end.at ≤ length s) × (end.long ≤ end.at)
ChunkLies s count total (Err e) = Unit {0}

-- the chunk that was read from where the cursor `at` is on, behind `count` chunks of `total` octets
pub record Chunked (s : List ℕ) (at : Cursor) (count total : ℕ) (r : Result Chunk Refused) : Type 0 where
  pub says : (f : ℕ) (cs : List Piece) → length cs ≡ count → ChunkSays s f cs total (open_chunks (suc f) cs total at (drop at.at s)) r
  pub lies : ChunkLies s count total r

-- content that was read from s into the lent ranges o: number and octets of its chunks, behind which the reading goes on
abbrev pub ContentSays : List ℕ → Got (List Piece) → List ℕ → List ℕ → Result ContentRead Refused → Type 0
ContentSays s (got cs e l) o o' r =
    (r ≡ Ok (record { end = e; chunks = length cs; total = length (content_of cs) })) × (o' ≡ splice o 0 (chunks_numbers cs)) × GoesOn s e l
ContentSays s (no n p) o o' r = r ≡ Err (refused_at n p)

-- the promise of content that is read
pub record Contented (s : List ℕ) (x : Got (List Piece)) (o o' : List ℕ) (r : Result ContentRead Refused) : Type 0 where
  pub says : ContentSays s x o o' r

-- ---- padding

-- what follows the message: zero octets to the end of s, or another one at its place
abbrev pub PaddingSays : List ℕ → Got ℕ → Result (Unit {0}) Refused → Type 0
PaddingSays s (got z e l) r = (r ≡ Ok tt) × (e.at ≡ length s)
PaddingSays s (no n p) r = (r ≡ Err (refused_at n p)) × (n ≡ bad_padding)

-- the promise of padding that is checked
pub record Padded (s : List ℕ) (x : Got ℕ) (r : Result (Unit {0}) Refused) : Type 0 where
  pub says : PaddingSays s x r
