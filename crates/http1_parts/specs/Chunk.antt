-- What the code that reads one chunk or the trailers behind the last promises, in terms of the scripts `chunks_from` and `trailer_section` (http1_lines/specs/Read;
-- 01, "HTTP/1.1 as we take it": chunk lines, data, trailers).
use Rattle.std.specs.Prelude.{ℕ, suc, ◌+◌, ◌≤◌, ◌<◌, ◌≡◌, List, [], ◌∷◌, ◌++◌, length, take, drop, Result, Ok, Err}
use Rattle.octets.specs.Limits.{chunk_line_most, chunks_most, content_most}
use Rattle.script.specs.Script.{Answer, run}
use Rattle.script.specs.Do.{Piece, piece}
use Rattle.output.specs.Splice.{splice}
use Rattle.messages.specs.Meaning.{content_of}
use Rattle.messages.specs.Answers.{chunks_numbers}
use Rattle.messages.specs.declared.Stop.{Stop}
use Rattle.messages.specs.declared.Span.{Span}
use Rattle.messages.specs.declared.Body.TheVariants.{Sized, UntilClosed}
use Rattle.http1_lines.specs.Read.{Content, trailer_section, after_chunk_line, chunks_from, content}
use Rattle.http1_parts.specs.Stops.{stopped}
use Rattle.http1_parts.specs.Content.{Contented}
use Rattle.http1_parts.specs.declared.ChunkRead.{ChunkRead}
use Rattle.http1_parts.specs.declared.ChunkRead.TheVariants.{Next, Last}
use Rattle.http1_parts.specs.declared.ContentRead.{ContentRead}

-- the chunks go on behind the data of a chunk: x is what the script answers that stood before it, behind chunks cs of so many octets in all
abbrev pub DataSays : List ℕ → ℕ → List Piece → ℕ → Answer Content → Result Span Stop → Type 0
DataSays s f cs total x (Ok p) =
    x ≡ run (chunks_from f (cs ++ piece p.start (take p.len (drop p.start s)) ∷ []) (total + p.len)) (p.start + (p.len + 2)) (drop (p.start + (p.len + 2)) s)
DataSays s f cs total x (Err e) = x ≡ stopped e

-- the same behind a chunk
abbrev pub ChunkSays : List ℕ → ℕ → List Piece → ℕ → Answer Content → Result ChunkRead Stop → Type 0
ChunkSays s f cs total x (Ok (Next p)) = DataSays s f cs total x (Ok p)
ChunkSays s f cs total x (Ok (Last end)) = x ≡ run (trailer_section cs) end (drop end s)
ChunkSays s f cs total x (Err e) = x ≡ stopped e

-- data of n octets that were read from `start` on
abbrev pub DataLies : List ℕ → ℕ → ℕ → Result Span Stop → Type 0
DataLies s start n (Ok p) = (p.start ≡ start) × (p.len ≡ n) × (start + (n + 2) ≤ length s)
DataLies s start n (Err e) = Unit {0}

-- the promise of a chunk's data that are read, behind any chunks
pub record DataRead (s : List ℕ) (start n : ℕ) (r : Result Span Stop) : Type 0 where
  pub says : (f : ℕ) (cs : List Piece) (total : ℕ) → DataSays s f cs total (run (after_chunk_line (chunks_from f) cs total n) start (drop start s)) r
  pub lies : DataLies s start n r

-- where a chunk or the end of the last chunk line lies
abbrev pub ChunkLies : List ℕ → ℕ → ℕ → ℕ → Result ChunkRead Stop → Type 0
ChunkLies s at count total (Ok (Next p)) =
    (p.start ≤ at + chunk_line_most) × (p.start + (p.len + 2) ≤ length s) × (total + p.len ≤ content_most) × (count < chunks_most)
ChunkLies s at count total (Ok (Last end)) = (end ≤ length s) × (end ≤ at + chunk_line_most)
ChunkLies s at count total (Err e) = Unit {0}

-- the chunk that was read from the place `at` on, behind `count` chunks of `total` octets
pub record Chunked (s : List ℕ) (at count total : ℕ) (r : Result ChunkRead Stop) : Type 0 where
  pub says : (f : ℕ) (cs : List Piece) → length cs ≡ count → ChunkSays s f cs total (run (chunks_from (suc f) cs total) at (drop at s)) r
  pub lies : ChunkLies s at count total r

-- the trailers that were read from the place `at` on, behind `count` chunks of `total` octets, whatever they are
pub record Trailed (s : List ℕ) (at count total : ℕ) (ts ts' : List ℕ) (r : Result ContentRead Stop) : Type 0 where
  pub says : (cs : List Piece) (o o' : List ℕ) → length cs ≡ count → length (content_of cs) ≡ total → o' ≡ splice o 0 (chunks_numbers cs)
      → Contented (run (trailer_section cs) at (drop at s)) o o' ts ts' r

-- content of n octets that was read from the place `at` on: there are no trailers
pub record SizedRead (s : List ℕ) (at n : ℕ) (cs cs' : List ℕ) (r : Result ContentRead Stop) : Type 0 where
  pub says : (ts : List ℕ) → Contented (run (content (Sized n)) at (drop at s)) cs cs' ts ts r

-- content up to an end that has not come, from the place `at` on: nothing is stored
pub record UnmeasuredRead (s : List ℕ) (at : ℕ) (r : Result ContentRead Stop) : Type 0 where
  pub says : (cs ts : List ℕ) → Contented (run (content UntilClosed) at (drop at s)) cs cs ts ts r
