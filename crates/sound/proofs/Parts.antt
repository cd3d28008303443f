-- The parts of a message as a reader has them, and that a message of such parts is sound. Of messages from either form.
use Prim.Native.Nat.{ℕ, ◌+◌, ◌<◌, ◌≤◌}
use mathlib.Core.Path.{◌≡◌, refl, ◌∙◌}
use mathlib.Core.Bool.{Bool, true, false, cond}
use mathlib.Core.List.{List, [], ◌∷◌, ◌++◌, map}
use native.Mathlib.Omega.{arith}
use borrow.Author.Tests.{le-leb, eqb-true, eqb-false}
use lib.Dec.{eqb}
use lib.ListN.{length, length-append, length-map}
use Rattle.octets.specs.Text.{is_empty}
use Rattle.octets.specs.Limits.{lines_most, chunks_most, content_most, informational_most, binary_most}
use Rattle.script.specs.Script.{Lies}
use Rattle.script.specs.Do.{Piece, piece}
use Rattle.messages.specs.Control.{method_verdict, is_options, path_verdict, is_host, status_verdict, is_informational, passed}
use Rattle.messages.specs.Message.{FieldRead, InformationalRead, Start, request_start, response_start, is_response, Message}
use Rattle.messages.specs.Names.{kept_trailers, are_trailers}
use Rattle.messages.specs.Meaning.{field_means, informational_means, request, response, control_means, content_of, meaning}
use Rattle.messages.specs.Valid.{is_scheme, valid_control, valid_body, valid_stated, of_response, has_body, valid}
use Rattle.sound.specs.Placed.{Each, OfLine, OfStart, Lying, Placed}
use Rattle.sound.specs.Sound.{GoodLine, GoodSection, GoodHeads, Sound}
use Rattle.sound.proofs.Each.{each_snoc, each_map, placed-inside, content-snoc, lengths-content}
use Rattle.sound.proofs.Valid.{section-valid, GoodHead, heads-valid}

-- ---- sections

-- a field line that lies in the input s
pub record LineAt (s : List ℕ) (f : FieldRead) : Type 0 where
  pub lies : OfLine (Lying s) f
  pub good : GoodLine f

-- the lines lie in the input s, obey their rules, and are not too many
pub record SectionAt (s : List ℕ) (fs : List FieldRead) : Type 0 where
  pub lines : Each (LineAt s) fs
  pub few : length fs ≤ lines_most

pub section-none : (s : List ℕ) → SectionAt s []
section-none s = record { lines = tt; few = omega arith }

pub section-good : (s : List ℕ) (fs : List FieldRead) → SectionAt s fs → GoodSection fs
section-good s fs h = record { lines = each_map (LineAt s) GoodLine (λ f g. g.good) fs h.lines; few = h.few }

pub section-lies : (s : List ℕ) (fs : List FieldRead) → SectionAt s fs → Each (OfLine (Lying s)) fs
section-lies s fs h = each_map (LineAt s) (OfLine (Lying s)) (λ f g. g.lies) fs h.lines

pub section-snoc : (s : List ℕ) (fs : List FieldRead) (f : FieldRead) → SectionAt s fs → LineAt s f → length fs < lines_most → SectionAt s (fs ++ f ∷ [])
section-snoc s fs f h g l = record {
  lines = each_snoc (LineAt s) fs f h.lines g;
  few = rw (length-append fs (f ∷ [])) (omega arith);
}

-- ---- content

-- a chunk lies in the input s, and is not empty
pub record ChunkAt (s : List ℕ) (c : Piece) : Type 0 where
  pub lies : Lying s c
  pub some : 0 < length c.text

pub record ChunksAt (s : List ℕ) (cs : List Piece) : Type 0 where
  pub each : Each (ChunkAt s) cs
  pub few : length cs ≤ chunks_most
  pub small : length (content_of cs) ≤ content_most

pub chunks-none : (s : List ℕ) → ChunksAt s []
unfolding content_of
chunks-none s = record { each = tt; few = omega arith; small = omega arith }

pub chunks-snoc : (s : List ℕ) (cs : List Piece) (c : Piece) (n : ℕ) → ChunksAt s cs → Lying s c → length c.text ≡ n → (n ≡ 0 → ⊥) → length cs < chunks_most
    → length (content_of cs) + n ≤ content_most → ChunksAt s (cs ++ c ∷ [])
chunks-snoc s cs c n h y l p q r = record {
  each = each_snoc (ChunkAt s) cs c h.each (record { lies = y; some = omega arith });
  few = rw (length-append cs (c ∷ [])) (omega arith);
  small = omega (arith, content-snoc cs c);
}

-- octets that lie together are one chunk, or none where there are none
pub chunks-one : (s : List ℕ) (at : ℕ) (w : List ℕ) → Lies s at w → length w ≤ content_most
    → ChunksAt s (cond (is_empty w) [] (piece at w ∷ [])) × (length (content_of (cond (is_empty w) [] (piece at w ∷ []))) ≡ length w)
unfolding content_of is_empty
chunks-one s at w y l = go (eqb (length w) 0) refl
  where
    go : (b : Bool) → eqb (length w) 0 ≡ b → ChunksAt s (cond b [] (piece at w ∷ [])) × (length (content_of (cond b [] (piece at w ∷ []))) ≡ length w)
    go true e = (chunks-none s, omega (arith, eqb-true (length w) 0 e))
    go false e =
        let z : length (w ++ []) ≡ length w = length-append w [] ∙ omega arith in
        (record { each = (record { lies = y; some = omega (arith, eqb-false (length w) 0 e) }, tt); few = omega arith; small = omega arith }, z)

-- ---- control data

pub request-valid : (m a p : List ℕ) (s : ℕ) → method_verdict m ≡ passed → is_scheme s ≡ true → is_host a ≡ true → path_verdict (is_options m) p ≡ passed → valid_control (request m s a p) ≡ true
unfolding valid_control
request-valid m a p s e f g h = rw (e, f, g, h)

-- an informational head, and its lines lie in the input
pub record HeadAt (s : List ℕ) (h : InformationalRead) : Type 0 where
  pub good : GoodHead h
  pub lies : Each (OfLine (Lying s)) h.lines

pub record HeadsAt (s : List ℕ) (hs : List InformationalRead) : Type 0 where
  pub each : Each (HeadAt s) hs
  pub few : length hs ≤ informational_most

pub head_at : (s : List ℕ) (n : ℕ) (fs : List FieldRead) → status_verdict n ≡ passed → is_informational n ≡ true → SectionAt s fs → HeadAt s (record { status = n; lines = fs })
head_at s n fs v i h = record { good = record { verdict = v; early = i; section = section-good s fs h }; lies = section-lies s fs h }

pub heads-snoc : (s : List ℕ) (hs : List InformationalRead) (h : InformationalRead) → HeadsAt s hs → HeadAt s h → length hs < informational_most → HeadsAt s (hs ++ h ∷ [])
heads-snoc s hs h a b l = record { each = each_snoc (HeadAt s) hs h a.each b; few = rw (length-append hs (h ∷ [])) (omega arith) }

pub heads-none : (s : List ℕ) → HeadsAt s []
heads-none s = record { each = tt; few = omega arith }

pub heads-lie : (s : List ℕ) (hs : List InformationalRead) → HeadsAt s hs → Each (λ h. Each (OfLine (Lying s)) h.lines) hs
heads-lie s hs a = each_map (HeadAt s) (λ h. Each (OfLine (Lying s)) h.lines) (λ h g. g.lies) hs a.each

pub heads-good : (s : List ℕ) (hs : List InformationalRead) → HeadsAt s hs → Each (λ h. GoodSection h.lines) hs × (length hs ≤ informational_most)
heads-good s hs a = (each_map (HeadAt s) (λ h. GoodSection h.lines) (λ h g. g.good.section) hs a.each, a.few)

pub response-valid : (s : List ℕ) (hs : List InformationalRead) (n : ℕ) → HeadsAt s hs → status_verdict n ≡ passed → is_informational n ≡ false
    → valid_control (response (map informational_means hs) n) ≡ true
unfolding valid_control
response-valid s hs n a v i =
    rw (
      heads-valid hs (each_map (HeadAt s) GoodHead (λ h g. g.good) hs a.each),
      length-map hs informational_means,
      le-leb (length hs) informational_most a.few,
      v,
      i,
    )

-- ---- messages

response-is : (x : Start) → of_response (control_means x) ≡ is_response x
response-is (request_start method s authority path) = refl
response-is (response_start hs s) = refl

-- a message whose control data are valid and lie in the input s, and whose sections and content are as above
pub record PartsAt (s : List ℕ) (m : Message) : Type 0 where
  pub control : valid_control (control_means m.start) ≡ true
  pub body : valid_body (has_body (control_means m.start)) (content_of m.chunks) (map field_means (kept_trailers m.trailers)) ≡ true
  pub stated : valid_stated m.stated (meaning m) ≡ true
  pub start : OfStart (Lying s) m.start
  pub heads : GoodHeads m.start
  pub lines : SectionAt s m.lines
  pub chunks : ChunksAt s m.chunks
  pub trailers : SectionAt s m.trailers
  pub names : are_trailers m.trailers ≡ true
  pub long : m.long ≤ binary_most

parts-valid : (s : List ℕ) (m : Message) → PartsAt s m → valid (meaning m) ≡ true
unfolding valid meaning kept_trailers
parts-valid s m h =
    rw (
      response-is m.start,
      h.control,
      section-valid true (is_response m.start) m.lines (section-good s m.lines h.lines),
      le-leb (length (content_of m.chunks)) content_most h.chunks.small,
      section-valid false false m.trailers (section-good s m.trailers h.trailers),
      h.body,
      h.stated,
    )

parts-placed : (s : List ℕ) (m : Message) → PartsAt s m → Placed s m
parts-placed s m h = record {
  start = h.start;
  lines = section-lies s m.lines h.lines;
  chunks = each_map (ChunkAt s) (Lying s) (λ c g. g.lies) m.chunks h.chunks.each;
  trailers = section-lies s m.trailers h.trailers;
}

pub parts-sound : (s : List ℕ) (m : Message) → PartsAt s m → Sound s m
parts-sound s m h = record {
  valid = parts-valid s m h;
  placed = parts-placed s m h;
  inside = placed-inside s m (parts-placed s m h);
  heads = h.heads;
  lines = section-good s m.lines h.lines;
  chunks = record {
    full = each_map (ChunkAt s) (λ c. 0 < length c.text) (λ c g. g.some) m.chunks h.chunks.each;
    few = h.chunks.few;
    sum = lengths-content m.chunks;
  };
  trailers = section-good s m.trailers h.trailers;
  names = h.names;
  long = h.long;
}
