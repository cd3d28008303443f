-- What content, trailers and padding give wherever they stand.
use Prim.Native.Nat.{ℕ, zero, suc, ◌+◌, ◌≤◌}
use mathlib.Core.Path.{◌≡◌, refl, sym, subst}
use mathlib.Core.Bool.{Bool, true, false, cond, ◌||◌}
use mathlib.Core.List.{List, [], ◌∷◌, ◌++◌, map}
use native.Mathlib.Omega.{arith}
use borrow.Author.Tests.{ne_eqb, eqb-false, leb-false, ltb-false}
use lib.Dec.{ltb, leb, eqb}
use lib.ListN.{length}
use Rattle.std.proofs.Common.{Option}
use Rattle.octets.specs.Limits.{chunks_most, content_most}
use Rattle.octets.specs.Refusals.{bad_padding}
use Rattle.octets.specs.Text.{is_empty}
use Rattle.octets.proofs.Kit.{into}
use Rattle.script.specs.Do.{Piece, piece, good}
use Rattle.messages.specs.Message.{FieldRead, Section, Start, Message, counted_message}
use Rattle.messages.specs.Names.{are_trailers, end_to_end, kept_trailers}
use Rattle.messages.specs.Rules.{agrees}
use Rattle.messages.specs.Meaning.{field_means, content_of}
use Rattle.messages.specs.Valid.{no_fields, valid_body}
use Rattle.messages.specs.declared.Framing.{Framing}
use Rattle.binary.specs.Reader.{no, cursor}
use Rattle.binary.specs.declared.Form.{Form}
use Rattle.binary.specs.declared.Cursor.{Cursor}
use Rattle.binary.specs.Read.{known_content, open_chunks, content, content_agrees, content_rule, trailers_agree, trailer_rule, trailers, padding, after_content, after_headers}
use Rattle.sound.proofs.Each.{content-snoc}
use Rattle.sound.proofs.Parts.{ChunksAt, chunks-none, chunks-snoc, chunks-one}
use Rattle.binary_sound.proofs.Judgement.{Stands, stands_on, Gets, Every, stops-give, every-refuse, every_here, stops-longs, stops-ended, every-tell, stops-if, every-integer, every-octets, stops-bind, stops_then}
use Rattle.binary_sound.proofs.Parts.{every-within}
use Rattle.binary_sound.proofs.Lines.{no-wrong, LinesAt, lines_none, every-section}

-- ---- the rules

-- an agreement is two tests
both : (a body c : Bool) → cond a (cond body true c) false ≡ true → (a ≡ true) × ((body || c) ≡ true)
both true true c e = (refl, refl)
both true false c e = (refl, e)
both false body c e = (e, cc)

-- a message that may have no content has none, and its head's length is the content's
pub record Filled (body : Bool) (f : Framing) (cs : List Piece) : Type 0 where
  pub agreed : agrees f (length (content_of cs)) ≡ true
  pub empty : (body || is_empty (content_of cs)) ≡ true

content-is : (body : Bool) (f : Framing) (end : ℕ) (cs c : List Piece) → content_rule body f end cs ≡ good c → (cs ≡ c) × Filled body f cs
unfolding content_rule content_agrees is_empty
content-is body f end cs c e =
    let a = into no-wrong (content_agrees f body (length (content_of cs))) _ e in
    let b = both (agrees f (length (content_of cs))) body (eqb (length (content_of cs)) 0) a.0 in
    (cc, record { agreed = b.0; empty = b.1 })

pub record GoodTrailers (body : Bool) (ts : List FieldRead) : Type 0 where
  pub names : are_trailers ts ≡ true
  pub none : (body || eqb (length (kept_trailers ts)) 0) ≡ true

trailers-are : (body : Bool) (h : Section) (ts : List FieldRead) → trailer_rule body h ≡ good ts → (h.lines ≡ ts) × GoodTrailers body h.lines
unfolding trailer_rule trailers_agree
trailers-are body h ts e =
    let a = into no-wrong (trailers_agree (are_trailers h.lines) body (length (kept_trailers h.lines))) _ e in
    let b = both (are_trailers h.lines) body (eqb (length (kept_trailers h.lines)) 0) a.0 in
    (cc, record { names = b.0; none = b.1 })

or-true : (b : Bool) → (b || true) ≡ true
or-true true = refl
or-true false = refl

named_none : (body : Bool) → GoodTrailers body []
unfolding are_trailers kept_trailers end_to_end
named_none body = record { names = refl; none = or-true body }

-- what the rules say is what a valid meaning has
as_many : (ts : List FieldRead) → no_fields (map field_means ts) ≡ eqb (length ts) 0
as_many [] = refl
as_many (t ∷ ts) = sym (ne_eqb (length (t ∷ ts)) 0 (λ z. omega (arith, z)))

pub body-valid : (body : Bool) (cs : List Piece) (ts : List FieldRead) → (body || is_empty (content_of cs)) ≡ true → (body || eqb (length (kept_trailers ts)) 0) ≡ true
    → valid_body body (content_of cs) (map field_means (kept_trailers ts)) ≡ true
unfolding valid_body
body-valid true cs ts h g = refl
body-valid false cs ts h g = rw (h, as_many (kept_trailers ts), g)

-- ---- the readers

module _ {s : List ℕ} {e : ℕ} where
  every-known-content : {at : Cursor} → Every s e (λ n cs. ChunksAt s cs) at known_content
  unfolding known_content
  every-known-content = stops_then _ (every-within content_most) λ i c g. stops-give (chunks-one s c.place c.text g.0 g.1).0

  every-chunks : (f : ℕ) {at : Cursor} (cs : List Piece) (total : ℕ) → ChunksAt s cs → length (content_of cs) ≡ total
      → Every s e (λ n c. ChunksAt s c) at (open_chunks f cs total)
  unfolding open_chunks
  every-chunks zero cs total h t = every-refuse
  every-chunks (suc f) cs total h t =
      stops-bind _ (every_here (stops-bind _ (every-integer _ _ λ i n.
      stops-if (eqb n 0) (λ a. stops-give h) λ a.
      stops-if (leb chunks_most (length cs)) (λ b. every-refuse) λ b.
      stops-if (ltb content_most (total + n)) (λ c. every-refuse) λ c.
      stops-bind _ (every-octets n _ _ λ w l y o.
      every-chunks f (cs ++ piece i.at w ∷ []) (total + n)
      (chunks-snoc s cs (piece i.at w) n h y l (eqb-false n 0 a) (leb-false chunks_most (length cs) b) (omega (arith, ltb-false content_most (total + n) c)))
      (omega (arith, content-snoc cs (piece i.at w)))))))

  every-content : {at : Cursor} (known : Bool) → Every s e (λ n cs. ChunksAt s cs) at (content known)
  unfolding content content_of
  every-content known =
      stops-bind _ (stops-ended λ b.
      stops-if b (λ t. stops-give (chunks-none s)) λ t.
      stops-if known (λ u. every-known-content) (λ u. every-chunks (suc chunks_most) [] 0 (chunks-none s) refl))

  every-trailers : {at : Cursor} (form : Form) (body : Bool) → Every s e (λ n ts. LinesAt s ts × GoodTrailers body ts) at (trailers form body)
  unfolding trailers
  every-trailers form body =
      stops-bind _ (stops-ended λ b.
      stops-if b (λ t. stops-give (lines_none s, named_none body)) λ t.
      stops_then _ (every-section form) λ i h g.
      every-tell (trailer_rule body h) λ ts q. let r = trailers-are body h ts q in (subst (LinesAt s) r.0 g, subst (GoodTrailers body) r.0 r.1))

  -- to the end of the input
  padded : (form : Form) (at : Cursor) (l : List ℕ) → Stands s e at l → Gets (λ n i z. Stands s e n i × (n.at ≡ e)) (padding form at l)
  unfolding padding
  padded form at [] y = (y, omega (arith, y.ends))
  padded form at (b ∷ l) y = on (cond form.padded (eqb b 0) false) (padded form (cursor (at.at + 1) at.long) l (stands_on 1 (omega arith) y))
    where
      on : (t : Bool) → Gets (λ n i z. Stands s e n i × (n.at ≡ e)) (padding form (cursor (at.at + 1) at.long) l)
          → Gets (λ n i z. Stands s e n i × (n.at ≡ e)) (cond t (padding form (cursor (at.at + 1) at.long) l) (no bad_padding at.at))
      on true ih = ih
      on false ih = tt

  every-padding : {at : Cursor} (form : Form) → Every s e (λ n z. n.at ≡ e) at (padding form)
  every-padding {at} form = record { go = λ l y. padded form at l y }

-- ---- behind the header section

pub record TailAt (s : List ℕ) (body : Bool) (f : Framing) (cs : List Piece) (ts : List FieldRead) : Type 0 where
  pub chunks : ChunksAt s cs
  pub filled : Filled body f cs
  pub trailers : LinesAt s ts
  pub named : GoodTrailers body ts

pub every-after : {s : List ℕ} {e : ℕ} {P : Cursor → Message → Type 0} {at : Cursor} (form : Form) (body : Bool) (stated : Option ℕ) (start : Start) (h : Section) (f : Framing)
    → ((c : Cursor) → c.at ≡ e → (n : ℕ) → n ≤ e → (cs : List Piece) (ts : List FieldRead) → TailAt s body f cs ts
    → P c (counted_message n stated start h.lines cs ts))
    → Every s e P at (after_headers form body stated start h f)
unfolding after_headers after_content
every-after {s} {e} {P} form body stated start h f k =
    stops_then _ (every-content form.known) λ i cs a.
    stops-bind _ (every_here (stops-bind _ (every-tell (content_rule body f _ cs) λ c q.
    let r = content-is body f _ cs c q in
    stops_then _ (every-trailers form body) λ j ts b.
    stops-bind _ (stops-longs λ o w.
    stops_then _ (every-padding form) λ n z p.
    stops-give (rw r.0 at (k n p j.long (omega (arith, o, w)) cs ts (record { chunks = a; filled = r.1; trailers = b.0; named = b.1 })))))))
