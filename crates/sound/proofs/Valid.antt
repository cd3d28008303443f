-- What is kept of judged sections is valid.
use mathlib.Core.Path.{◌≡◌, refl}
use mathlib.Core.Bool.{Bool, true, false, cond}
use mathlib.Core.List.{List, [], ◌∷◌, map}
use native.Mathlib.Omega.{arith}
use borrow.Author.Tests.{le-leb}
use lib.ListN.{length, length-map}
use Rattle.octets.specs.Limits.{lines_most}
use Rattle.messages.specs.Message.{FieldRead, InformationalRead}
use Rattle.messages.specs.Control.{status_verdict, is_informational, passed}
use Rattle.messages.specs.Names.{line_kind, is_end_to_end, end_to_end, connection_values, kept, kept_of}
use Rattle.messages.proofs.Noting.{kept-of-few}
use Rattle.messages.specs.Meaning.{field_means, informational_means}
use Rattle.messages.specs.Valid.{valid_field, valid_fields, valid_section, valid_informational, valid_heads}
use Rattle.sound.specs.Placed.{Each}
use Rattle.sound.specs.Sound.{GoodLine, GoodSection}
use Rattle.sound.proofs.Each.{each-unnamed}

-- an end-to-end line means a field that is valid
pub field-valid : (host : Bool) (f : FieldRead) → GoodLine f → is_end_to_end host (line_kind f) ≡ true → valid_field host (field_means f) ≡ true
unfolding valid_field field_means line_kind
field-valid host f g e = rw (g.name, g.value, e)

-- a good line that is end-to-end
abbrev Passing : Bool → FieldRead → Type 0
Passing host f = GoodLine f × (is_end_to_end host (line_kind f) ≡ true)

fields-valid : (host : Bool) (fs : List FieldRead) → Each (Passing host) fs → valid_fields host (map field_means fs) ≡ true
unfolding valid_fields
fields-valid host [] h = refl
fields-valid host (f ∷ fs) h = rw (field-valid host f h.0.0 h.0.1, fields-valid host fs h.1)

-- all that are end-to-end, and so all that are kept
end-to-end-pass : (host : Bool) (fs : List FieldRead) → Each GoodLine fs → Each (Passing host) (end_to_end host fs)
unfolding end_to_end
end-to-end-pass host [] h = tt
end-to-end-pass host (f ∷ fs) h = go (is_end_to_end host (line_kind f)) refl (end-to-end-pass host fs h.1)
  where
    go : (b : Bool) → is_end_to_end host (line_kind f) ≡ b → Each (Passing host) (end_to_end host fs) → Each (Passing host) (cond b (f ∷ end_to_end host fs) (end_to_end host fs))
    go true e ih = ((h.0, e), ih)
    go false e ih = ih

kept-pass : (headers host : Bool) (fs : List FieldRead) → Each GoodLine fs → Each (Passing host) (kept_of headers host fs)
unfolding kept
kept-pass true host fs h = each-unnamed (Passing host) (connection_values fs) (end_to_end host fs) (end-to-end-pass host fs h)
kept-pass false host fs h = end-to-end-pass host fs h

pub section-valid : (headers host : Bool) (fs : List FieldRead) → GoodSection fs → valid_section host (map field_means (kept_of headers host fs)) ≡ true
unfolding valid_section
section-valid headers host fs h =
    rw (fields-valid host (kept_of headers host fs) (kept-pass headers host fs h.lines), length-map (kept_of headers host fs) field_means)
    (le-leb (length (kept_of headers host fs)) lines_most (omega (arith, kept-of-few headers host fs, h.few)))

-- an informational head
pub record GoodHead (h : InformationalRead) : Type 0 where
  pub verdict : status_verdict h.status ≡ passed
  pub early : is_informational h.status ≡ true
  pub section : GoodSection h.lines

pub head-valid : (h : InformationalRead) → GoodHead h → valid_informational (informational_means h) ≡ true
unfolding valid_informational informational_means
head-valid h g = rw (g.verdict, g.early, section-valid true true h.lines g.section)

pub heads-valid : (hs : List InformationalRead) → Each GoodHead hs → valid_heads (map informational_means hs) ≡ true
unfolding valid_heads
heads-valid [] g = refl
heads-valid (h ∷ hs) g = rw (head-valid h g.0, heads-valid hs g.1)
