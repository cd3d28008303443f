-- Valid fields are kept, in order, with their names as they are; none states a length, and in requests none names a host (messages/proofs/ValidLines).
-- A stated length before them is not kept (messages/proofs/Stating).
use mathlib.Core.Path.{◌≡◌, refl, ◌∙◌}
use mathlib.Core.Bool.{Bool, true, false}
use mathlib.Core.List.{List, [], ◌∷◌, ◌++◌, map}
use Prim.Native.Nat.{ℕ, ◌+◌}
use native.Mathlib.Omega.{arith}
use borrow.Author.Tests.{ne_eqb}
use lib.Dec.{eqb}
use lib.ListN.{length}
use Rattle.std.proofs.Common.{Option, Some, None}
use Rattle.messages.specs.Names.{lines_of, kept, kept_of, are_trailers}
use Rattle.messages.specs.declared.Kind.TheVariants as kind
use Rattle.messages.specs.declared.Framing.TheVariants.{Unstated}
use Rattle.messages.specs.Rules.{binary_framing_of}
use Rattle.messages.specs.Meaning.{Field, field_means, Informational, informational_means, Meaning, length_field, stated_fields}
use Rattle.messages.specs.Valid.{valid_fields, valid_heads, valid_stated, no_fields}
use Rattle.messages.proofs.Valid.{section-fields, head_ok}
use Rattle.messages.proofs.ValidLines as laws
use Rattle.messages.proofs.Stating.{length-kept, length-binary, stated-ok, framing_for}
use Rattle.binary_writer.specs.Write.{field_bytes, section_bytes}
use Rattle.numbers.specs.Integer.{int_bytes}
use Rattle.binary_round_trip.specs.RoundTrip.{line_at, lines_at, heads_at}

pub lines-say : (fs : List Field) (at : ℕ) → map laws.said (lines_at at fs) ≡ fs
unfolding lines_at
lines-say [] at = refl
lines-say (f ∷ fs) at = rw (lines-say fs (at + length (field_bytes f)))

module _ (host : Bool) (fs : List Field) (at : ℕ) (v : valid_fields host fs ≡ true) where
  lines-valid : valid_fields host (map laws.said (lines_at at fs)) ≡ true
  lines-valid = rw (lines-say fs at) v

  pub unstated : binary_framing_of (lines_at at fs) ≡ Unstated
  unstated = laws.unstated-binary host (lines_at at fs) lines-valid

  pub kept-all : (headers : Bool) → kept_of headers host (lines_at at fs) ≡ lines_at at fs
  kept-all headers = laws.kept-all host headers (lines_at at fs) lines-valid

  pub fields_back : (headers : Bool) → map field_means (kept_of headers host (lines_at at fs)) ≡ fs
  fields_back headers = laws.fields_back host headers (lines_at at fs) lines-valid ∙ lines-say fs at

-- a header that a stated length begins
module _ (host : Bool) (fs : List Field) (v : valid_fields host fs ≡ true) where
  pub header-back : (x : Option ℕ) (at : ℕ) → map field_means (kept host (lines_at at (stated_fields x ++ fs))) ≡ fs
  unfolding lines_at
  header-back None at = fields_back host fs at v true
  header-back (Some n) at =
      let q : ℕ = at + length (field_bytes (length_field n)) in
      rw (length-kept (line_at at (length_field n)) n refl host (lines_at q fs) (lines-valid host fs q v)) (fields_back host fs q v true)

  pub header-framing : (x : Option ℕ) (m : Meaning) → valid_stated x m ≡ true → (at : ℕ)
      → binary_framing_of (lines_at at (stated_fields x ++ fs)) ≡ framing_for x at
  unfolding lines_at
  header-framing None m s at = unstated host fs at v
  header-framing (Some n) m s at =
      let q : ℕ = at + length (field_bytes (length_field n)) in
      length-binary (line_at at (length_field n)) n refl host (lines_at q fs) (lines-valid host fs q v) (stated-ok n m s).small

pub no-hosts : (fs : List Field) (at : ℕ) → valid_fields false fs ≡ true → lines_of kind.Host (lines_at at fs) ≡ []
no-hosts fs at v = laws.no-hosts (lines_at at fs) (lines-valid false fs at v)

pub are-trailers : (fs : List Field) (at : ℕ) → valid_fields false fs ≡ true → are_trailers (lines_at at fs) ≡ true
are-trailers fs at v = laws.are-trailers (lines_at at fs) (lines-valid false fs at v)

pub as_many : (fs : List Field) (at : ℕ) → eqb (length (lines_at at fs)) 0 ≡ no_fields fs
unfolding lines_at
as_many [] at = refl
as_many (f ∷ fs) at = ne_eqb (length (lines_at at (f ∷ fs))) 0 (λ z. omega (arith, z))

pub heads-back : (hs : List Informational) (at : ℕ) → valid_heads hs ≡ true → map informational_means (heads_at at hs) ≡ hs
unfolding heads_at informational_means
heads-back [] at v = refl
heads-back (h ∷ hs) at v =
    let o = head_ok h hs v in
    rw (fields_back true h.fields _ (section-fields true h.fields o.0.fields) true, heads-back hs (at + length (int_bytes h.status ++ section_bytes h.fields)) o.1)
