-- What holds of each of a list, and of each part of a message.
use Prim.Native.Nat.{ℕ, ◌+◌}
use mathlib.Core.Path.{◌≡◌, refl, ◌∙◌}
use mathlib.Core.Bool.{Bool, true, false, cond}
use mathlib.Core.List.{List, [], ◌∷◌, ◌++◌, map}
use native.Mathlib.Omega.{arith}
use lib.ListN.{length, length-append}
use Rattle.octets.specs.Text.{lower_of}
use Rattle.script.specs.Do.{Piece}
use Rattle.script.proofs.Places.{lies_in}
use Rattle.messages.specs.Message.{FieldRead, InformationalRead, Start, request_start, response_start, Message}
use Rattle.messages.specs.Connection.{is_named}
use Rattle.messages.specs.Names.{line_kind, same_kind, lines_of, is_end_to_end, end_to_end, connection_values, unnamed, kept, kept_trailers}
use Rattle.messages.specs.declared.Kind.{Kind}
use Rattle.messages.specs.Meaning.{content_of}
use Rattle.sound.specs.Placed.{Each, OfLine, OfStart, OfParts, Lying, Inside, Placed}
use Rattle.sound.specs.Sound.{lengths}

module _ {A : Type 0} (P : A → Type 0) where
  pub each_snoc : (xs : List A) (x : A) → Each P xs → P x → Each P (xs ++ x ∷ [])
  each_snoc [] x h g = (g, tt)
  each_snoc (y ∷ xs) x h g = (h.0, each_snoc xs x h.1 g)

  pub each_map : (Q : A → Type 0) → ((x : A) → P x → Q x) → (xs : List A) → Each P xs → Each Q xs
  each_map Q f [] h = tt
  each_map Q f (x ∷ xs) h = (f x h.0, each_map Q f xs h.1)

-- what holds of each line holds of each line of a kind
pub each_of : (P : FieldRead → Type 0) (k : Kind) (fs : List FieldRead) → Each P fs → Each P (lines_of k fs)
unfolding lines_of
each_of P k [] h = tt
each_of P k (f ∷ fs) h = go (same_kind (line_kind f) k) (each_of P k fs h.1)
  where
    go : (b : Bool) → Each P (lines_of k fs) → Each P (cond b (f ∷ lines_of k fs) (lines_of k fs))
    go true ih = (h.0, ih)
    go false ih = ih

-- and of each that is kept
module _ (P : FieldRead → Type 0) where
  pub each-end-to-end : (host : Bool) (fs : List FieldRead) → Each P fs → Each P (end_to_end host fs)
  unfolding end_to_end
  each-end-to-end host [] h = tt
  each-end-to-end host (f ∷ fs) h = go (is_end_to_end host (line_kind f)) (each-end-to-end host fs h.1)
    where
      go : (b : Bool) → Each P (end_to_end host fs) → Each P (cond b (f ∷ end_to_end host fs) (end_to_end host fs))
      go true ih = (h.0, ih)
      go false ih = ih

  pub each-unnamed : (vs : List (List ℕ)) (fs : List FieldRead) → Each P fs → Each P (unnamed vs fs)
  unfolding unnamed
  each-unnamed vs [] h = tt
  each-unnamed vs (f ∷ fs) h = go (is_named vs (map lower_of f.name.text)) (each-unnamed vs fs h.1)
    where
      go : (b : Bool) → Each P (unnamed vs fs) → Each P (cond b (unnamed vs fs) (f ∷ unnamed vs fs))
      go true ih = ih
      go false ih = (h.0, ih)

  pub each-kept : (host : Bool) (fs : List FieldRead) → Each P fs → Each P (kept host fs)
  unfolding kept
  each-kept host fs h = each-unnamed (connection_values fs) (end_to_end host fs) (each-end-to-end host fs h)

  pub each-trailers : (fs : List FieldRead) → Each P fs → Each P (kept_trailers fs)
  unfolding kept_trailers
  each-trailers fs h = each-end-to-end false fs h

module _ (P Q : Piece → Type 0) (f : (p : Piece) → P p → Q p) where
  pub line-map : (x : FieldRead) → OfLine P x → OfLine Q x
  line-map x h = record { name = f x.name h.name; value = f x.value h.value }

  pub lines-map : (fs : List FieldRead) → Each (OfLine P) fs → Each (OfLine Q) fs
  lines-map = each_map (OfLine P) (OfLine Q) line-map

  start-map : (x : Start) → OfStart P x → OfStart Q x
  start-map (request_start method s authority path) h = (f method h.0, f authority h.1, f path.own h.2)
  start-map (response_start hs s) h =
      each_map (λ (x : InformationalRead). Each (OfLine P) x.lines) (λ (x : InformationalRead). Each (OfLine Q) x.lines) (λ x. lines-map x.lines) hs h

  pub parts-map : (m : Message) → OfParts P m → OfParts Q m
  parts-map m h = record {
    start = start-map m.start h.start;
    lines = lines-map m.lines h.lines;
    chunks = each_map P Q f m.chunks h.chunks;
    trailers = lines-map m.trailers h.trailers;
  }

-- what lies in the input is within it
pub lying-inside : (s : List ℕ) (p : Piece) → Lying s p → Inside (length s) p
lying-inside s p h = lies_in h

pub placed-inside : (s : List ℕ) (m : Message) → Placed s m → OfParts (Inside (length s)) m
placed-inside s m h = parts-map (Lying s) (Inside (length s)) (lying-inside s) m h

-- ---- content

pub content-snoc : (cs : List Piece) (c : Piece) → length (content_of (cs ++ c ∷ [])) ≡ length (content_of cs) + length c.text
unfolding content_of
content-snoc [] c = length-append c.text [] ∙ omega arith
content-snoc (x ∷ cs) c =
    length-append x.text (content_of (cs ++ c ∷ [])) ∙ omega (arith, content-snoc cs c, length-append x.text (content_of cs))

-- the chunks' lengths add up to the content's length
pub lengths-content : (cs : List Piece) → lengths cs ≡ length (content_of cs)
unfolding content_of lengths
lengths-content [] = refl
lengths-content (c ∷ cs) = rw length-append (omega (arith, lengths-content cs))
