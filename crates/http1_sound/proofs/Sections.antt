-- What sections and content give wherever they stand.
use Prim.Native.Nat.{ℕ, zero, suc, ◌+◌, ◌-◌, ◌≤◌}
use mathlib.Core.Path.{◌≡◌, refl, sym, subst}
use mathlib.Core.Bool.{Bool, true, false, cond}
use mathlib.Core.List.{List, [], ◌∷◌, ◌++◌}
use native.Mathlib.Omega.{arith}
use borrow.Author.Tests.{leb-false, ltb-false, eqb-true, eqb-false}
use lib.Dec.{eqb, leb, ltb}
use lib.ListN.{length, take, drop, length-append, length-drop, take-append-drop}
use lib.Seq.{length-take-le}
use Rattle.octets.specs.Limits.{trailer_most, chunk_line_most, lines_most, chunks_most, content_most}
use Rattle.octets.specs.Refusals.{bad_length, too_large, bad_syntax}
use Rattle.octets.specs.Text.{is_empty, same_text}
use Rattle.script.specs.Script.{accepted, done, stop, run, some_octets, Lies, Every}
use Rattle.script.specs.Do.{◌>>=◌, Piece, piece, word, tell, good, wrong}
use Rattle.script.proofs.Do.{every_bind, every_map, every-tell, every-then}
use Rattle.script.proofs.Sound.{says, sound}
use Rattle.script.proofs.Places.{lies-front, lies_in}
use Rattle.messages.specs.Message.{FieldRead}
use Rattle.messages.specs.Names.{are_trailers}
use Rattle.messages.specs.Meaning.{content_of}
use Rattle.messages.specs.declared.Body.{Body}
use Rattle.messages.specs.declared.Body.TheVariants.{Sized, InChunks, UntilClosed}
use Rattle.http1_lines.specs.Lines.{field_of, chunk_of}
use Rattle.http1_lines.specs.Read.{line_within, less, Lines, field_lines, section, Content, trailer_section, chunk_data, chunks_from, content}
use Rattle.sound.specs.Placed.{Lying}
use Rattle.sound.proofs.Each.{content-snoc}
use Rattle.sound.proofs.Parts.{SectionAt, section-none, section-snoc, ChunksAt, chunks-none, chunks-snoc, chunks-one}
use Rattle.http1_sound.proofs.Rules.{Fits, Fills, Reaches}
use Rattle.http1_sound.proofs.Lines.{line_at}

-- ---- sections

-- a section that was read up to the place n: what its lines are, and that it says that it ends there
pub record SectionRead (s : List ℕ) (n : ℕ) (h : Lines) : Type 0 where
  pub lines : SectionAt s h.lines
  pub end : h.end ≡ n

empty-line : (at : ℕ) (w : List ℕ) → is_empty w ≡ true → at + 2 ≡ at + length (w ++ 13 ∷ 10 ∷ [])
unfolding is_empty
empty-line at w e = omega (arith, eqb-true (length w) 0 e, length-append w (13 ∷ 10 ∷ []))

every-lines : (s : List ℕ) (f left at : ℕ) (fs : List FieldRead) → SectionAt s fs → Every s (SectionRead s) at (field_lines f left fs)
unfolding field_lines
every-lines s zero left at fs h = tt
every-lines s (suc f) left at fs h =
    every_bind s _ at (word (line_within left)) _ λ w g y.
    pick w (is_empty w) refl (leb lines_most (length fs)) refl y (λ x q. every-lines s f (less left (piece at w)) _ (fs ++ x ∷ []) q)
  where
    pick : (w : List ℕ) (a : Bool) → is_empty w ≡ a → (b : Bool) → leb lines_most (length fs) ≡ b → Lies s at w
        → ((x : FieldRead) → SectionAt s (fs ++ x ∷ [])
        → Every s (SectionRead s) (at + length (w ++ 13 ∷ 10 ∷ [])) (field_lines f (less left (piece at w)) (fs ++ x ∷ [])))
        → Every s (SectionRead s) (at + length (w ++ 13 ∷ 10 ∷ []))
        (cond a (done (record { lines = fs; end = at + 2; left = left - 2 }))
        (cond b (stop too_large at) (tell (field_of (piece at w)) >>= λ x. field_lines f (less left (piece at w)) (fs ++ x ∷ []))))
    pick w true q b e y ih = record { lines = h; end = empty-line at w q }
    pick w false q true e y ih = tt
    pick w false q false e y ih =
        every_bind s _ _ (tell (field_of (piece at w))) _ (every-tell s _ _ (field_of (piece at w)) λ x q.
        ih x
        (section-snoc s fs x h (line_at s (piece at w) x q y) (leb-false lines_most (length fs) e)))

pub every-section : (s : List ℕ) (left at : ℕ) → Every s (SectionRead s) at (section left)
unfolding section
every-section s left at = every-lines s (suc lines_most) left at [] (section-none s)

-- a section that was read from a place on
pub record SectionFrom (s : List ℕ) (from n : ℕ) (h : Lines) : Type 0 where
  pub read : SectionRead s n h
  pub behind : from ≤ n
  pub within : n ≤ length s

pub section-at : (s : List ℕ) (left from n : ℕ) (h : Lines) → from ≤ length s → run (section left) from (drop from s) ≡ accepted n h → SectionFrom s from n h
section-at s left from n h g e =
    let l : length (take from s) ≡ from = length-take-le from s g in
    let d : length (drop from s) ≡ length s - from = length-drop from s in
    let t : take from s ++ drop from s ≡ s = take-append-drop from s in
    let b = says _ (sound (SectionRead s) (section left) (take from s) (drop from s) from l
    (subst (λ (x : List ℕ). Every x (SectionRead s) from (section left)) (sym t) (every-section s left from))) e in
    record { read = b.0; behind = b.1; within = omega (arith, b.2, d) }

-- ---- content

pub record ContentAt (s : List ℕ) (c : Content) : Type 0 where
  pub chunks : ChunksAt s c.chunks
  pub trailers : SectionAt s c.trailers
  pub names : are_trailers c.trailers ≡ true

every-trailers : (s : List ℕ) (at : ℕ) (cs : List Piece) → ChunksAt s cs → Every s (λ n c. ContentAt s c) at (trailer_section cs)
unfolding trailer_section
every-trailers s at cs h =
    every-then s (λ n l. SectionRead s n l) _ at (section trailer_most) _ (every-section s trailer_most at) λ n l g.
    pick n l g.lines (are_trailers l.lines) refl
  where
    pick : (n : ℕ) (l : Lines) → SectionAt s l.lines → (b : Bool) → are_trailers l.lines ≡ b
        → Every s (λ i c. ContentAt s c) n (cond b (done (record { chunks = cs; trailers = l.lines })) (stop bad_length l.end))
    pick n l g true e = record { chunks = h; trailers = g; names = e }
    pick n l g false e = tt

-- the data of a chunk of n octets
chunk-data : (s : List ℕ) (n at : ℕ) (w : List ℕ) (c : Piece) → chunk_data n (piece at w) ≡ good c → length w ≡ n + 2 → Lies s at w
    → Lying s c × (length c.text ≡ n)
unfolding chunk_data
chunk-data s n at w c e l y = go (same_text (drop n w) (13 ∷ 10 ∷ [])) e
  where
    go : (b : Bool) → cond b (good (piece at (take n w))) (wrong bad_syntax (at + n)) ≡ good c → Lying s c × (length c.text ≡ n)
    go true g =
        let z : piece at (take n w) ≡ c = cc in
        let x : Lying s (piece at (take n w)) × (length (take n w) ≡ n) =
        (lies-front n y, length-take-le n w (omega arith)) in
        subst (λ (p : Piece). Lying s p × (length p.text ≡ n)) z x
    go false g = let z : ◌≡◌ {A = ℕ} 0 1 = cc in absurd (omega arith)

every-chunks : (s : List ℕ) (f at : ℕ) (cs : List Piece) (total : ℕ) → ChunksAt s cs → length (content_of cs) ≡ total
    → Every s (λ n c. ContentAt s c) at (chunks_from f cs total)
unfolding chunks_from
every-chunks s zero at cs total h t = tt
every-chunks s (suc f) at cs total h t =
    every_bind s _ at (word (line_within chunk_line_most)) _ λ w g y.
    every_bind s _ _ (tell (chunk_of (piece at w))) _ (every-tell s _ _ (chunk_of (piece at w)) λ n e.
    pick (at + length (w ++ 13 ∷ 10 ∷ [])) n (eqb n 0) refl (leb chunks_most (length cs)) refl (ltb content_most (total + n)) refl
    (λ i c q r. every-chunks s f i (cs ++ c ∷ []) (total + n) q r))
  where
    pick : (i n : ℕ) (a : Bool) → eqb n 0 ≡ a → (b : Bool) → leb chunks_most (length cs) ≡ b → (x : Bool) → ltb content_most (total + n) ≡ x
        → ((j : ℕ) (c : Piece) → ChunksAt s (cs ++ c ∷ []) → length (content_of (cs ++ c ∷ [])) ≡ total + n
        → Every s (λ k z. ContentAt s z) j (chunks_from f (cs ++ c ∷ []) (total + n)))
        → Every s (λ k z. ContentAt s z) i
        (cond a (trailer_section cs)
        (cond b (stop too_large at)
        (cond x (stop too_large at)
        (word (some_octets (n + 2)) >>= λ d. tell (chunk_data n d) >>= λ c. chunks_from f (cs ++ c ∷ []) (total + n)))))
    pick i n true p b q x r ih = every-trailers s i cs h
    pick i n false p true q x r ih = tt
    pick i n false p false q true r ih = tt
    pick i n false p false q false r ih =
        every_bind s _ i (word (some_octets (n + 2))) _ λ w l y.
        every_bind s _ _ (tell (chunk_data n (piece i w))) _ (every-tell s _ _ (chunk_data n (piece i w)) λ c e.
        let d = chunk-data s n i w c e l y in
        ih _ c
        (chunks-snoc s cs c n h d.0 d.1 (eqb-false n 0 p) (leb-false chunks_most (length cs) q) (omega (arith, ltb-false content_most (total + n) r)))
        (omega (arith, content-snoc cs c, d.1)))

pub every-content : (s : List ℕ) (b : Body) (at : ℕ) → Fits b → Every s (λ n c. ContentAt s c × Fills b c × Reaches (length s) b at n) at (content b)
unfolding content content_of are_trailers
every-content s (Sized n) at h =
    every_bind s _ at (word (some_octets n)) _ λ w l y.
    let k : length w ≡ n = l in
    let o = chunks-one s at w y (omega arith) in
    (record { chunks = o.0; trailers = section-none s; names = refl }, (omega (arith, o.1), refl), (omega arith, omega (arith, lies_in y)))
every-content s InChunks at h =
    every_map s (λ n c. ContentAt s c) (λ n c. ContentAt s c × Unit {0} × Unit {0}) at (chunks_from (suc chunks_most) [] 0) (λ n c g. (g, tt, tt))
    (every-chunks s (suc chunks_most) at [] 0 (chunks-none s) refl)
every-content s UntilClosed at h = every_bind s _ at (word (some_octets (content_most + 1))) _ λ w l y. tt
