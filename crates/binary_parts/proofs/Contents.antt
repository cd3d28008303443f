-- Content that was read: chunks one behind the other, content of known length.
use Prim.Native.Nat.{ℕ, suc, ◌+◌, ◌-◌, ◌*◌, ◌<◌, ◌≤◌}
use mathlib.Core.Path.{◌≡◌, refl, sym, ap, ◌∙◌, subst}
use mathlib.Core.List.{List, [], ◌∷◌, ◌++◌}
use mathlib.Core.Bool.{Bool, true, false}
use native.Mathlib.Omega.{arith}
use borrow.Author.Tests.{eq-eqb, ne_eqb}
use lib.ListN.{length, take, drop, length-drop}
use Rattle.std.proofs.Common.{Result, Ok, Err}
use Rattle.octets.specs.Limits.{chunks_most, content_most}
use Rattle.octets.specs.Refusals.{refused_at}
use Rattle.octets.specs.declared.Refused.{Refused}
use Rattle.octets.specs.Text.{is_empty}
use Rattle.script.specs.Do.{Piece, piece}
use Rattle.output.specs.Splice.{splice}
use Rattle.ranges.proofs.Stored.{chunk_next}
use Rattle.messages.specs.Meaning.{content_of}
use Rattle.messages.specs.Answers.{chunks_numbers}
use Rattle.sound.proofs.Each.{content-snoc}
use Rattle.binary.specs.declared.Cursor.{Cursor}
use Rattle.binary.specs.Reader.{cursor, Got, got, no, ◌>>=◌}
use Rattle.binary.specs.Read.{part_within, open_chunks, known_content, content, open_content}
use Rattle.binary_parts.specs.Control.{Parted}
use Rattle.binary_parts.specs.Content.{ChunkSays, ChunkLies, Chunked, ContentSays, Contented}
use Rattle.binary_parts.specs.declared.PartRead.{PartRead}
use Rattle.binary_parts.specs.declared.Chunk.{Chunk}
use Rattle.binary_parts.specs.declared.Chunk.TheVariants as chunk
use Rattle.binary_parts.specs.declared.ContentRead.{ContentRead}
use Rattle.binary_parts.proofs.Places.{part_length, PartDone, part_no, part-got}

pub contented-as : {s : List ℕ} {x y : Got (List Piece)} {o o' : List ℕ} {r : Result ContentRead Refused} → x ≡ y → Contented s y o o' r → Contented s x o o' r
contented-as {s} {o = o} {o' = o'} {r = r} e h = subst (λ (z : Got (List Piece)). Contented s z o o' r) (sym e) h

pub contented-no : {s : List ℕ} {x : Got (List Piece)} {o o' : List ℕ} {e : Refused} → x ≡ no e.number e.place → Contented s x o o' (Err e)
contented-no e = contented-as e (record { says = refl })

abbrev pub content-is : Cursor → ℕ → ℕ → Result ContentRead Refused
content-is end chunks total = Ok (record { end = end; chunks = chunks; total = total })

same-content : {a : Cursor} {b c y z : ℕ} → b ≡ y → c ≡ z → content-is a b c ≡ content-is a y z
same-content f g = rw (f, g)

pub contented-got : {s : List ℕ} {x : Got (List Piece)} {end : Cursor} {count total : ℕ} {o o' : List ℕ} (cs : List Piece) → x ≡ got cs end (drop end.at s)
    → (end.at ≤ length s) × (end.long ≤ end.at) → length cs ≡ count → length (content_of cs) ≡ total → o' ≡ splice o 0 (chunks_numbers cs)
    → Contented s x o o' (content-is end count total)
contented-got cs e h a b c = contented-as e (record { says = (same-content (sym a) (sym b), c, (h.0, refl, h.1)) })

-- ---- chunks

module _ {s : List ℕ} {at : Cursor} {count total : ℕ} {r : Chunk} (h : Chunked s at count total (Ok r)) where
  pub chunk-bounds : {start len long : ℕ} → r ≡ chunk.Next start len long
      → (start + len ≤ length s) × (total + len ≤ content_most) × (count < chunks_most) × (long ≤ start + len)
  chunk-bounds e = subst (λ (q : Chunk). ChunkLies s count total (Ok q)) e h.lies

  pub last-bounds : {end : Cursor} → r ≡ chunk.Last end → (end.at ≤ length s) × (end.long ≤ end.at)
  last-bounds e = subst (λ (q : Chunk). ChunkLies s count total (Ok q)) e h.lies

  module _ (cs : List Piece) (c : length cs ≡ count) {x : Got (List Piece)} (g : x ≡ open_chunks (suc (chunks_most - count)) cs total at (drop at.at s)) where
    said : {q : Chunk} → r ≡ q → ChunkSays s (chunks_most - count) cs total x (Ok q)
    said {q} e = subst (λ (y : Got (List Piece)). ChunkSays s (chunks_most - count) cs total y (Ok q)) (sym g)
        (subst (λ (y : Chunk). ChunkSays s (chunks_most - count) cs total (open_chunks (suc (chunks_most - count)) cs total at (drop at.at s)) (Ok y)) e
        (h.says (chunks_most - count) cs c))

    pub last-said : {end : Cursor} → r ≡ chunk.Last end → x ≡ got cs end (drop end.at s)
    last-said e = said e

    pub next-said : {start len long : ℕ} → r ≡ chunk.Next start len long
        → x ≡ open_chunks (suc (chunks_most - (count + 1))) (cs ++ piece start (take len (drop start s)) ∷ []) (total + len) (cursor (start + len) long) (drop (start + len) s)
    next-said e = let f : chunks_most - count ≡ suc (chunks_most - (count + 1)) = omega (arith, chunk-bounds e) in rw (← f) (said e)

-- one chunk more
module _ (s : List ℕ) (start len : ℕ) (within : start + len ≤ length s) where
  pub content-next : (cs : List Piece) {total : ℕ} → length (content_of cs) ≡ total
      → length (content_of (cs ++ piece start (take len (drop start s)) ∷ [])) ≡ total + len
  content-next cs e = content-snoc cs (piece start (take len (drop start s))) ∙ rw (part_length s start len within, e)

  pub chunk-stored : (cs : List Piece) (o₀ : List ℕ) {o o' : List ℕ} {k : ℕ} → length cs ≡ k → o ≡ splice o₀ 0 (chunks_numbers cs)
      → o' ≡ splice o (k * 2) (start ∷ len ∷ []) → o' ≡ splice o₀ 0 (chunks_numbers (cs ++ piece start (take len (drop start s)) ∷ []))
  chunk-stored cs o₀ c e q = chunk_next (piece start (take len (drop start s))) cs o₀ (part_length s start len within) c e q

-- ---- content of known length

module _ (s : List ℕ) (from : Cursor) {r : Result PartRead Refused} (h : Parted s (part_within content_most from (drop from.at s)) r) where
  pub known-no : {o o' : List ℕ} {e : Refused} → r ≡ Err e → Contented s (known_content from (drop from.at s)) o o' (Err e)
  unfolding known_content ◌>>=◌
  known-no e = contented-no (rw (part_no h e))

  module _ {q : PartRead} (e : r ≡ Ok q) where
    d : PartDone s (part_within content_most from (drop from.at s)) q
    d = part-got h e

    lies : (q.end.at ≤ length s) × (q.end.long ≤ q.end.at)
    lies = (omega (arith, d.inside, d.behind), d.few)

    pub known-none : {o o' : List ℕ} → q.part.len ≡ 0 → o' ≡ o → Contented s (known_content from (drop from.at s)) o o' (content-is q.end 0 0)
    unfolding known_content ◌>>=◌ is_empty content_of chunks_numbers
    known-none z u =
        contented-got [] (rw (d.taken, part_length s q.part.start q.part.len d.inside, eq-eqb q.part.len 0 z)) lies refl refl u

    pub known-one : {o o' : List ℕ} → (q.part.len ≡ 0 → ⊥) → o' ≡ splice o 0 (q.part.start ∷ q.part.len ∷ []) → Contented s (known_content from (drop from.at s)) o o' (content-is q.end 1 q.part.len)
    unfolding known_content ◌>>=◌ is_empty content_of chunks_numbers
    known-one {o} z u =
        contented-got (piece q.part.start (take q.part.len (drop q.part.start s)) ∷ []) (rw (d.taken, part_length s q.part.start q.part.len d.inside, ne_eqb q.part.len 0 z)) lies refl
        (content-next s q.part.start q.part.len d.inside [] refl ∙ omega arith) (chunk-stored s q.part.start q.part.len d.inside [] o refl refl u)

-- ---- content

some_left : (s : List ℕ) (from : ℕ) → from < length s → is_empty (drop from s) ≡ false
unfolding is_empty
some_left s from h = rw (length-drop from s, ne_eqb (length s - from) 0 (λ z. omega (arith, z)))

module _ (s : List ℕ) (from : Cursor) (known : Bool) {o o' : List ℕ} where
  pub content-none : from.at ≤ length s → from.long ≤ from.at → length s ≤ from.at → o' ≡ o → Contented s (content known from (drop from.at s)) o o' (content-is from 0 0)
  unfolding content ◌>>=◌ is_empty content_of chunks_numbers
  content-none g b h q =
      let z : length s - from.at ≡ 0 = omega arith in
      contented-got [] (rw (length-drop from.at s, eq-eqb (length s - from.at) 0 z)) (g, b) refl refl q

  module _ {r : Result ContentRead Refused} (h : from.at < length s) where
    pub content-known : known ≡ true → Contented s (known_content from (drop from.at s)) o o' r → Contented s (content known from (drop from.at s)) o o' r
    unfolding content ◌>>=◌
    content-known k q = contented-as (rw (some_left s from.at h, k)) q

    pub content-open : known ≡ false → Contented s (open_content from (drop from.at s)) o o' r → Contented s (content known from (drop from.at s)) o o' r
    unfolding content ◌>>=◌
    content-open k q = contented-as (rw (some_left s from.at h, k)) q

-- ---- what the caller learns

pub record ContentDone (s : List ℕ) (x : Got (List Piece)) (o o' : List ℕ) (c : ContentRead) : Type 0 where
  pub chunks : List Piece
  pub taken : x ≡ got chunks c.end (drop c.end.at s)
  pub counted : length chunks ≡ c.chunks
  pub sum : length (content_of chunks) ≡ c.total
  pub stored : o' ≡ splice o 0 (chunks_numbers chunks)
  pub within : c.end.at ≤ length s
  pub few : c.end.long ≤ c.end.at

module _ {s : List ℕ} {x : Got (List Piece)} {o o' : List ℕ} {r : Result ContentRead Refused} (h : Contented s x o o' r) where
  pub content-no : {e : Refused} → r ≡ Err e → x ≡ no e.number e.place
  content-no {e} q = go x h.says
    where
      go : (y : Got (List Piece)) → ContentSays s y o o' r → y ≡ no e.number e.place
      go (got cs i l) d = let f = d.0 in cc
      go (no m k) d = let z : refused_at m k ≡ e = cc in ap (λ (f : Refused). no f.number f.place) z

  pub content-done : {c : ContentRead} → r ≡ Ok c → ContentDone s x o o' c
  content-done {c} e = go x h.says
    where
      go : (y : Got (List Piece)) → ContentSays s y o o' r → ContentDone s y o o' c
      go (got cs i l) d =
          let f = d.0 in
          let z : ◌≡◌ {A = ContentRead} (record { end = i; chunks = length cs; total = length (content_of cs) }) c = cc in
          subst (λ (c : ContentRead). ContentDone s (got cs i l) o o' c) z
          (record {
            chunks = cs;
            taken = ap (λ (m : List ℕ). got cs i m) d.2.1;
            counted = refl;
            sum = refl;
            stored = d.1;
            within = d.2.0;
            few = d.2.2;
          })
      go (no m k) d = let z : ◌≡◌ {A = ℕ} 0 1 = cc in absurd (omega arith)
