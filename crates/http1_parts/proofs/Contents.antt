-- Content that was read: chunks one behind the other, the trailers behind the last, content by its length.
use Rattle.std.proofs.Common.{Result, Ok, Err}
use Prim.Native.Nat.{ℕ, suc, ◌+◌, ◌-◌, ◌*◌, ◌<◌, ◌≤◌}
use mathlib.Core.Path.{◌≡◌, refl, sym, ap, ◌∙◌, subst}
use mathlib.Core.List.{List, [], ◌∷◌, ◌++◌, append-nil}
use mathlib.Core.Bool.{Bool, true, false, cond}
use native.Mathlib.Omega.{arith}
use borrow.Author.Tests.{eq-eqb, ne_eqb}
use lib.ListN.{length, take, drop, length-append, length-drop}
use lib.Seq.{length-take-le}
use Rattle.octets.specs.Text.{is_empty}
use Rattle.octets.specs.Limits.{trailer_most, chunk_line_most, chunks_most, content_most}
use Rattle.octets.specs.Refusals.{bad_length, too_large, refused_at}
use Rattle.script.specs.Script.{Answer, accepted, refused, done, stop, run}
use Rattle.script.specs.Do.{◌>>=◌, and_then, Piece, piece}
use Rattle.script.proofs.Laws.{run-done, run-stop}
use Rattle.script.proofs.Places.{run_bind, octets-more, octets-in}
use Rattle.output.specs.Splice.{splice}
use Rattle.ranges.specs.Ranges.{Stores}
use Rattle.ranges.proofs.Stored.{chunk_next}
use Rattle.ranges.proofs.Storing.{altered-none, stores-none}
use Rattle.messages.specs.Names.{are_trailers, end_to_end, kept_trailers}
use Rattle.messages.specs.Meaning.{content_of}
use Rattle.messages.specs.Answers.{fields_numbers, chunks_numbers}
use Rattle.messages.specs.declared.Stop.{Stop}
use Rattle.messages.specs.declared.Span.{Span}
use Rattle.messages.specs.declared.Notes.{Notes}
use Rattle.messages.specs.declared.Body.{Body}
use Rattle.messages.specs.declared.Body.TheVariants.{Sized, UntilClosed}
use Rattle.messages.proofs.Noting.{trailers-noted}
use Rattle.http1_lines.specs.Read.{Lines, section, Content, trailer_section, chunks_from, content}
use Rattle.http1_parts.specs.Section.{Sectioned}
use Rattle.http1_parts.specs.Content.{SizedWithin, Contented}
use Rattle.http1_parts.specs.Chunk.{ChunkSays, ChunkLies, Chunked, Trailed, SizedRead, UnmeasuredRead}
use Rattle.http1_parts.specs.declared.Section.{Section}
use Rattle.http1_parts.specs.declared.ChunkRead.{ChunkRead}
use Rattle.http1_parts.specs.declared.ChunkRead.TheVariants as read
use Rattle.http1_parts.specs.declared.ContentRead.{ContentRead}
use Rattle.http1_parts.specs.Stops.{stopped}
use Rattle.http1_parts.proofs.Stops.{and-stopped}
use Rattle.http1_parts.proofs.Outcomes.{section-end, section-stopped, section-done}

-- an answer that equals another promises the same
pub contented-as : {x y : Answer Content} {cs cs' ts ts' : List ℕ} {r : Result ContentRead Stop} → x ≡ y → Contented y cs cs' ts ts' r → Contented x cs cs' ts ts' r
contented-as {cs = cs} {cs' = cs'} {ts = ts} {ts' = ts'} {r = r} e h = subst (λ (z : Answer Content). Contented z cs cs' ts ts' r) (sym e) h

pub contented-stopped : {x : Answer Content} {cs cs' ts ts' : List ℕ} (e : Stop) → x ≡ stopped e → Contented x cs cs' ts ts' (Err e)
contented-stopped (Stop.Refused e) q = contented-as q (record { says = refl })
contented-stopped Stop.More q = contented-as q (record { says = refl })

-- ---- trailers

same-read : {a b c d x y z w : ℕ} → a ≡ x → b ≡ y → c ≡ z → d ≡ w
    → ◌≡◌ {A = Result ContentRead Stop} (Ok (record { end = a; chunks = b; total = c; trailers = d })) (Ok (record { end = x; chunks = y; total = z; trailers = w }))
same-read e f g h = rw (e, f, g, h)

-- what the script answers behind the lines of the trailer section
abbrev behind : List ℕ → List Piece → ℕ → Lines → Answer Content
behind s cs n l = run (cond (are_trailers l.lines) (done (record { chunks = cs; trailers = l.lines })) (stop bad_length l.end)) n (drop n s)

module _ (s : List ℕ) (at : ℕ) where
  goes : (cs : List Piece) {y : Answer Lines} → run (section trailer_most) at (drop at s) ≡ y
      → run (trailer_section cs) at (drop at s) ≡ and_then y (behind s cs)
  unfolding trailer_section
  goes cs e = run_bind (section trailer_most) _ s at ∙ ap (λ (y : Answer Lines). and_then y (behind s cs)) e

module _ (s : List ℕ) (at count total : ℕ) {ts ts' : List ℕ} where
  pub trailers-stopped : {e : Stop} → Sectioned (run (section trailer_most) at (drop at s)) false false 0 ts ts' (Err e) → Trailed s at count total ts ts' (Err e)
  trailers-stopped {e} h = record { says = λ cs o o' a b c. contented-stopped e (goes s at cs (section-stopped h) ∙ and-stopped (behind s cs) e) }

  module _ {r : Section} (h : Sectioned (run (section trailer_most) at (drop at s)) false false 0 ts ts' (Ok r)) {t : Bool} (q : t ≡ r.notes.trailers) where
    judged : {b : Bool} → t ≡ b → are_trailers (section-done h).lines ≡ b
    judged g = trailers-noted true (section-done h).lines ∙ ap (λ (n : Notes). n.trailers) (sym (section-done h).noted) ∙ sym q ∙ g

    pub trailers-good : t ≡ true → Trailed s at count total ts ts' (Ok (record { end = r.end; chunks = count; total = total; trailers = r.kept }))
    unfolding kept_trailers
    trailers-good g = let d = section-done h in
        let z : r.end ≡ d.place = (section-end trailer_most at (drop at s) d.taken).end in
        let n : r.kept ≡ length (end_to_end false d.lines) = omega (arith, d.counted) in
        record {
          says = λ cs o o' a b c.
              contented-as {y = accepted d.place (record { chunks = cs; trailers = d.lines })} (goes s at cs d.taken ∙ rw (judged g, run-done)) (record { says = (same-read z (sym a) (sym b) n, c, d.stored.fields) });
        }

    pub trailers-bad : t ≡ false → Trailed s at count total ts ts' (Err (Stop.Refused (refused_at bad_length r.end)))
    trailers-bad g = record { says = λ cs o o' a b c. contented-stopped _ (goes s at cs (section-done h).taken ∙ rw (judged g, run-stop)) }

-- behind the last chunk
pub chunks-end : {x : Answer Content} {s : List ℕ} {at count total : ℕ} {ts ts₀ ts' o o' : List ℕ} {r : Result ContentRead Stop} (cs : List Piece)
    → x ≡ run (trailer_section cs) at (drop at s) → Trailed s at count total ts ts' r → ts ≡ ts₀ → length cs ≡ count → length (content_of cs) ≡ total
    → o' ≡ splice o 0 (chunks_numbers cs) → Contented x o o' ts₀ ts' r
chunks-end {x} {ts' = ts'} {o = o} {o' = o'} {r = r} cs e h q a b c =
    subst (λ (t : List ℕ). Contented x o o' t ts' r) q (contented-as e (h.says cs o o' a b c))

-- ---- chunks

module _ {s : List ℕ} {at count total : ℕ} where
  pub stopped-said : {e : Stop} → Chunked s at count total (Err e) → (cs : List Piece) → length cs ≡ count
      → {x : Answer Content} → x ≡ run (chunks_from (suc (chunks_most - count)) cs total) at (drop at s) → x ≡ stopped e
  stopped-said h cs c g = g ∙ h.says (chunks_most - count) cs c

  module _ {r : ChunkRead} (h : Chunked s at count total (Ok r)) where
    pub chunk-bounds : {p : Span} → r ≡ read.Next p
        → (p.start ≤ at + chunk_line_most) × (p.start + (p.len + 2) ≤ length s) × (total + p.len ≤ content_most) × (count < chunks_most)
    chunk-bounds e = subst (λ (q : ChunkRead). ChunkLies s at count total (Ok q)) e h.lies

    pub last-bounds : {end : ℕ} → r ≡ read.Last end → (end ≤ length s) × (end ≤ at + chunk_line_most)
    last-bounds e = subst (λ (q : ChunkRead). ChunkLies s at count total (Ok q)) e h.lies

    module _ (cs : List Piece) (c : length cs ≡ count) {x : Answer Content} (g : x ≡ run (chunks_from (suc (chunks_most - count)) cs total) at (drop at s)) where
      said : {q : ChunkRead} → r ≡ q → ChunkSays s (chunks_most - count) cs total x (Ok q)
      said {q} e = subst (λ (y : Answer Content). ChunkSays s (chunks_most - count) cs total y (Ok q)) (sym g)
          (subst (λ (y : ChunkRead). ChunkSays s (chunks_most - count) cs total (run (chunks_from (suc (chunks_most - count)) cs total) at (drop at s)) (Ok y)) e
          (h.says (chunks_most - count) cs c))

      pub last-said : {end : ℕ} → r ≡ read.Last end → x ≡ run (trailer_section cs) end (drop end s)
      last-said e = said e

      pub next-said : {p : Span} → r ≡ read.Next p
          → x ≡ run (chunks_from (suc (chunks_most - (count + 1))) (cs ++ piece p.start (take p.len (drop p.start s)) ∷ []) (total + p.len)) (p.start + (p.len + 2)) (drop (p.start + (p.len + 2)) s)
      next-said e = let f : chunks_most - count ≡ suc (chunks_most - (count + 1)) = omega (arith, chunk-bounds e) in rw (← f) (said e)

content-append : (a b : List Piece) → length (content_of (a ++ b)) ≡ length (content_of a) + length (content_of b)
unfolding content_of
content-append [] b = omega arith
content-append (p ∷ a) b = omega (arith, content-append a b, length-append p.text (content_of (a ++ b)), length-append p.text (content_of a))

-- one chunk more
module _ (s : List ℕ) (start len : ℕ) (within : start + (len + 2) ≤ length s) where
  long : length (take len (drop start s)) ≡ len
  long = length-take-le len (drop start s) (omega (arith, length-drop start s))

  pub content-next : (cs : List Piece) {total : ℕ} → length (content_of cs) ≡ total
      → length (content_of (cs ++ piece start (take len (drop start s)) ∷ [])) ≡ total + len
  unfolding content_of
  content-next cs e =
      content-append cs (piece start (take len (drop start s)) ∷ []) ∙ rw (append-nil (take len (drop start s)), long, e)

  pub chunk-stored : (cs : List Piece) (o₀ : List ℕ) {o o' : List ℕ} {k : ℕ} → length cs ≡ k → o ≡ splice o₀ 0 (chunks_numbers cs)
      → o' ≡ splice o (k * 2) (start ∷ len ∷ []) → o' ≡ splice o₀ 0 (chunks_numbers (cs ++ piece start (take len (drop start s)) ∷ []))
  chunk-stored cs o₀ c e q = chunk_next (piece start (take len (drop start s))) cs o₀ long c e q

-- ---- content by its length

module _ (s : List ℕ) (at n : ℕ) (within : at ≤ length s) where
  pub sized-more : {o : List ℕ} → length s - at < n → SizedRead s at n o o (Err Stop.More)
  unfolding content ◌>>=◌
  sized-more h = record { says = λ ts. contented-stopped _ (octets-more _ _ s at within h) }

  module _ (h : n ≤ length s - at) where
    size : length (take n (drop at s)) ≡ n
    size = length-take-le n (drop at s) (omega (arith, length-drop at s))

    no-trailers : (ts : List ℕ) → Stores ts 0 [] ts
    no-trailers ts = stores-none (altered-none 0 ts) (omega arith)

    pub sized-none : {o : List ℕ} → n ≡ 0 → SizedRead s at n o o (Ok (record { end = at + n; chunks = 0; total = 0; trailers = 0 }))
    unfolding content ◌>>=◌ is_empty content_of chunks_numbers kept_trailers end_to_end fields_numbers
    sized-none z =
        let a : run (content (Sized n)) at (drop at s) ≡ accepted (at + n) (record { chunks = []; trailers = [] }) =
        octets-in _ _ s at within h ∙ rw (size, eq-eqb n 0 z, run-done) in
        record { says = λ ts. contented-as a (record { says = (refl, refl, no-trailers ts) }) }

    pub sized-one : {o o' : List ℕ} → (n ≡ 0 → ⊥) → o' ≡ splice o 0 (at ∷ n ∷ []) → SizedRead s at n o o' (Ok (record { end = at + n; chunks = 1; total = n; trailers = 0 }))
    unfolding content ◌>>=◌ is_empty content_of chunks_numbers kept_trailers end_to_end fields_numbers
    sized-one z e =
        let a : run (content (Sized n)) at (drop at s) ≡ accepted (at + n) (record { chunks = piece at (take n (drop at s)) ∷ []; trailers = [] }) =
        octets-in _ _ s at within h ∙ rw (size, ne_eqb n 0 z, run-done) in
        record { says = λ ts. contented-as a (record { says = (rw (append-nil (take n (drop at s)), size), rw size e, no-trailers ts) }) }

-- ---- content up to an end that has not come

module _ (s : List ℕ) (at : ℕ) (within : at ≤ length s) where
  pub unmeasured-more : length s - at ≤ content_most → UnmeasuredRead s at (Err Stop.More)
  unfolding content ◌>>=◌
  unmeasured-more h = record { says = λ cs ts. contented-stopped _ (octets-more _ _ s at within (omega (arith, h))) }

  pub unmeasured-over : content_most < length s - at → UnmeasuredRead s at (Err (Stop.Refused (refused_at too_large at)))
  unfolding content ◌>>=◌
  unmeasured-over h =
      let a : run (content UntilClosed) at (drop at s) ≡ refused too_large at = octets-in _ _ s at within (omega (arith, h)) ∙ rw run-stop in
      record { says = λ cs ts. contented-stopped _ a }

-- ---- by what the head says

pub sized-within : {b : Body} {n : ℕ} → b ≡ Sized n → SizedWithin b → n ≤ content_most
sized-within e h = subst SizedWithin e h

pub content-as : (at : ℕ) (l : List ℕ) {b c : Body} {o o' ts ts' : List ℕ} {r : Result ContentRead Stop} → b ≡ c
    → Contented (run (content c) at l) o o' ts ts' r → Contented (run (content b) at l) o o' ts ts' r
content-as at l e h = contented-as (ap (λ (b : Body). run (content b) at l) e) h
