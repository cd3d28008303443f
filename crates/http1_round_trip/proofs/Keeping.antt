-- What the rules on host and lengths say of a written head, and what is kept of it.
use mathlib.Core.Path.{◌≡◌, refl, sym, ap, ◌∙◌}
use mathlib.Core.Bool.{Bool, true, false, cond}
use mathlib.Core.List.{List, [], ◌∷◌, ◌++◌, map}
use Prim.Native.Nat.{ℕ, ◌+◌, ◌≤◌}
use native.Mathlib.Omega.{arith}
use borrow.Author.Tests.{le-leb, eqb-true}
use lib.ListN.{length}
use Rattle.std.proofs.Common.{Option, Some, None}
use Rattle.octets.specs.Text.{lower_of, same_text, is_empty}
use Rattle.octets.specs.Limits.{content_most, stated_most}
use Rattle.octets.proofs.Kit.{and_split}
use Rattle.script.specs.Do.{piece, good}
use Rattle.messages.specs.Message.{FieldRead}
use Rattle.messages.specs.Control.{is_host, ends_at_head}
use Rattle.messages.specs.Names.{kind_of, line_kind, same_kind, lines_of, end_to_end, connection_values, kept, kept_of, are_trailers}
use Rattle.messages.specs.Rules.{authority_from, authority_in, framing_from, framing_of, request_body, content_body, response_body, length_in, stated_in}
use Rattle.messages.specs.declared.Body.{Body}
use Rattle.messages.specs.declared.Body.TheVariants.{Sized, InChunks}
use Rattle.messages.specs.declared.Framing.{Framing}
use Rattle.messages.specs.declared.Framing.TheVariants.{Unstated, Stated, Chunked}
use Rattle.messages.specs.declared.Kind.{Kind}
use Rattle.messages.specs.declared.Kind.TheVariants as kind
use Rattle.messages.specs.declared.Told.{Told}
use Rattle.messages.specs.Meaning.{Field, field_means, Informational, informational_means, response, Meaning, length_field}
use Rattle.messages.specs.Valid.{valid_fields, valid_heads, no_fields, valid_body, valid_stated}
use Rattle.messages.proofs.Valid.{section-fields, head_ok}
use Rattle.messages.proofs.ValidLines as laws
use Rattle.messages.proofs.Stating.{LinesOk, fields-ok, length-line, length-kind, length-kept, length-framing, stated-ok, stated-back, bodyless-good, Suited}
use Rattle.messages.proofs.Stating.{framing_for as stated_framing}
use Rattle.http1_writer.specs.declared.LengthLine.{LengthLine}
use Rattle.http1_writer.specs.declared.LengthLine.TheVariants as line
use Rattle.http1_writer.specs.Write.{field_text, section_text, status_line, host_field, coding_field, stated_line, line_for, length_fields, is_silent}
use Rattle.http1_round_trip.proofs.Placed.{line_at, lines_at, heads_at}
use Rattle.http1_round_trip.proofs.Lines.{coding-line}

-- ---- lines of valid fields

lines-say : (fs : List Field) (at : ℕ) → map laws.said (lines_at at fs) ≡ fs
unfolding lines_at
lines-say [] at = refl
lines-say (f ∷ fs) at = rw (lines-say fs (at + length (field_text f)))

lines-valid : (host : Bool) (fs : List Field) (at : ℕ) → valid_fields host fs ≡ true → valid_fields host (map laws.said (lines_at at fs)) ≡ true
lines-valid host fs at v = rw (lines-say fs at) v

pub fields_back : (headers host : Bool) (fs : List Field) (at : ℕ) → valid_fields host fs ≡ true → map field_means (kept_of headers host (lines_at at fs)) ≡ fs
fields_back headers host fs at v = laws.fields_back host headers (lines_at at fs) (lines-valid host fs at v) ∙ lines-say fs at

pub unstated : (host : Bool) (fs : List Field) (at : ℕ) → valid_fields host fs ≡ true → framing_of (lines_at at fs) ≡ Unstated
unstated host fs at v = laws.unstated host (lines_at at fs) (lines-valid host fs at v)

no-hosts : (fs : List Field) (at : ℕ) → valid_fields false fs ≡ true → lines_of kind.Host (lines_at at fs) ≡ []
no-hosts fs at v = laws.no-hosts (lines_at at fs) (lines-valid false fs at v)

pub are-trailers : (fs : List Field) (at : ℕ) → valid_fields false fs ≡ true → are_trailers (lines_at at fs) ≡ true
are-trailers fs at v = laws.are-trailers (lines_at at fs) (lines-valid false fs at v)

pub heads-back : (hs : List Informational) (at : ℕ) → valid_heads hs ≡ true → map informational_means (heads_at at hs) ≡ hs
unfolding heads_at informational_means
heads-back [] at v = refl
heads-back (h ∷ hs) at v =
    let o = head_ok h hs v in
    rw (fields_back true true h.fields _ (section-fields true h.fields o.0.fields), heads-back hs (at + length (status_line h.status ++ section_text h.fields)) o.1)

-- ---- the kinds of the lines that a head gains

host-kind : (a : List ℕ) (at : ℕ) → line_kind (line_at at (host_field a)) ≡ kind.Host
unfolding host_field line_kind kind_of same_text lower_of
host-kind a at = refl

coding-kind : (at : ℕ) → line_kind (line_at at coding_field) ≡ kind.TransferEncoding
unfolding coding_field line_kind kind_of same_text lower_of
coding-kind at = refl

-- ---- the length line

-- what a reader learns from it, where it stands at the place p
abbrev framing_for : LengthLine → ℕ → Framing
framing_for line.Nothing p = Unstated
framing_for (line.Length n) p = Stated n p
framing_for line.Chunked p = Chunked

-- it tells of no more than may be stated
abbrev Small : LengthLine → Type 0
Small line.Nothing = Unit {0}
Small (line.Length n) = n ≤ stated_most
Small line.Chunked = Unit {0}

small-stated : (x : Option ℕ) (m : Meaning) → valid_stated x m ≡ true → Small (stated_line x)
small-stated None m v = tt
small-stated (Some n) m v = (stated-ok n m v).small

small_line : (p u : Bool) (x : Option ℕ) (n : ℕ) → n ≤ content_most → (m : Meaning) → valid_stated x m ≡ true → Small (line_for p u x n)
small_line true true x n h m v = small-stated x m v
small_line true false x n h m v = omega arith
small_line false u x n h m v = tt

coding-said : (p : ℕ) → framing_from [] (line_at p coding_field ∷ []) ≡ Chunked
unfolding framing_from coding_field same_text lower_of
coding-said p = refl

coding-kept : (host : Bool) (at : ℕ) (ls : List FieldRead) → kept host (line_at at coding_field ∷ ls) ≡ kept host ls
unfolding kept connection_values end_to_end lines_of same_kind
coding-kept host at ls = rw (coding-kind at)

module _ (host : Bool) (fs : List Field) (v : valid_fields host fs ≡ true) where
  pub lead-ok : (l : LengthLine) → LinesOk (length_fields l ++ fs)
  lead-ok line.Nothing = fields-ok host fs v
  lead-ok (line.Length n) = (length-line n, fields-ok host fs v)
  lead-ok line.Chunked = (coding-line, fields-ok host fs v)

  lead-kept : (l : LengthLine) (at : ℕ) → map field_means (kept host (lines_at at (length_fields l ++ fs))) ≡ fs
  unfolding lines_at
  lead-kept line.Nothing at = fields_back true host fs at v
  lead-kept (line.Length n) at =
      let q : ℕ = at + length (field_text (length_field n)) in
      rw (length-kept (line_at at (length_field n)) n refl host (lines_at q fs) (lines-valid host fs q v)) (fields_back true host fs q v)
  lead-kept line.Chunked at = rw (coding-kept host at (lines_at (at + length (field_text coding_field)) fs)) (fields_back true host fs _ v)

  coding-framing : (at : ℕ) → framing_of (line_at at coding_field ∷ lines_at (at + length (field_text coding_field)) fs) ≡ Chunked
  unfolding framing_of lines_of same_kind
  coding-framing at =
      let ls : List FieldRead = lines_at (at + length (field_text coding_field)) fs in
      let o = lines-valid host fs (at + length (field_text coding_field)) v in
      rw (coding-kind at, laws.no_lengths host ls o, laws.no-codings host ls o) (coding-said at)

  lead-framing : (l : LengthLine) → Small l → (at : ℕ) → framing_of (lines_at at (length_fields l ++ fs)) ≡ framing_for l at
  unfolding lines_at
  lead-framing line.Nothing h at = unstated host fs at v
  lead-framing (line.Length n) h at =
      let q : ℕ = at + length (field_text (length_field n)) in
      length-framing (line_at at (length_field n)) n refl host (lines_at q fs) (lines-valid host fs q v) h
  lead-framing line.Chunked h at = coding-framing at

-- ---- the content that the length line tells

abbrev pub body_for : List ℕ → List Field → Body
body_for c ts = cond (no_fields ts) (Sized (length c)) InChunks

no-octets : (c : List ℕ) → is_empty c ≡ true → 0 ≡ length c
unfolding is_empty
no-octets c e = sym (eqb-true (length c) 0 e)

module _ (c : List ℕ) (h : length c ≤ content_most) (end p : ℕ) where
  request-body : (b x u : Bool) → is_empty c ≡ x
      → request_body end (framing_for (line_for b (cond x u false) None (length c)) p) ≡ good (cond b (Sized (length c)) InChunks)
  unfolding request_body
  request-body true true true e = ap (λ (z : ℕ). good (Sized z)) (no-octets c e)
  request-body true true false e = rw (le-leb (length c) content_most h)
  request-body true false u e = rw (le-leb (length c) content_most h)
  request-body false x u e = refl

-- ---- heads of requests: the host line stands first

module _ (a : List ℕ) (at : ℕ) (ls : List FieldRead) where
  host-of : (k : Kind) → lines_of k (line_at at (host_field a) ∷ ls) ≡ cond (same_kind kind.Host k) (line_at at (host_field a) ∷ lines_of k ls) (lines_of k ls)
  unfolding lines_of
  host-of k = rw (host-kind a at)

  host-framing : framing_of (line_at at (host_field a) ∷ ls) ≡ framing_of ls
  unfolding framing_of same_kind
  host-framing = rw (host-of kind.ContentLength, host-of kind.TransferEncoding)

  host-kept : kept false (line_at at (host_field a) ∷ ls) ≡ kept false ls
  unfolding kept connection_values end_to_end same_kind
  host-kept = rw (host-of kind.Connection, host-kind a at)

  host-found : (end : ℕ) → lines_of kind.Host ls ≡ [] → is_host a ≡ true → authority_in end (piece 0 []) (line_at at (host_field a) ∷ ls) ≡ good (piece (at + 6) a)
  unfolding authority_in authority_from same_kind host_field is_empty
  host-found end e h = rw (host-of kind.Host, e, h)

lead-hosts : (fs : List Field) → valid_fields false fs ≡ true → (l : LengthLine) (at : ℕ) → lines_of kind.Host (lines_at at (length_fields l ++ fs)) ≡ []
unfolding lines_of lines_at same_kind
lead-hosts fs v line.Nothing at = no-hosts fs at v
lead-hosts fs v (line.Length n) at = rw (length-kind (line_at at (length_field n)) n refl) (no-hosts fs (at + length (field_text (length_field n))) v)
lead-hosts fs v line.Chunked at = rw (coding-kind at) (no-hosts fs (at + length (field_text coding_field)) v)

-- the length line of a request with the method m
abbrev pub request_length : Told → List ℕ → List ℕ → List Field → LengthLine
request_length t m c ts = line_for (no_fields ts) (cond (is_empty c) (is_silent t m) false) None (length c)

-- a request's head: the authority is found, the content is told, the fields are kept
abbrev pub request_lines : Told → List ℕ → List ℕ → List Field → List ℕ → List Field → List Field
request_lines t m a fs c ts = host_field a ∷ (length_fields (request_length t m c ts) ++ fs)

module _ (t : Told) (m a : List ℕ) (fs : List Field) (c : List ℕ) (ts : List Field) (at : ℕ) (v : valid_fields false fs ≡ true) where
  pub request-host : (end : ℕ) → is_host a ≡ true → authority_in end (piece 0 []) (lines_at at (request_lines t m a fs c ts)) ≡ good (piece (at + 6) a)
  unfolding lines_at
  request-host end h = host-found a at _ end (lead-hosts fs v (request_length t m c ts) _) h

  pub request-told : (end : ℕ) → length c ≤ content_most → request_body end (framing_of (lines_at at (request_lines t m a fs c ts))) ≡ good (body_for c ts)
  unfolding lines_at
  request-told end h =
      ap (request_body end) (host-framing a at _ ∙ lead-framing false fs v (request_length t m c ts) (small-request (no_fields ts) (cond (is_empty c) (is_silent t m) false)) _)
      ∙ request-body c h end _ (no_fields ts) (is_empty c) (is_silent t m) refl
    where
      small-request : (b u : Bool) → Small (line_for b u None (length c))
      small-request true true = tt
      small-request true false = omega arith
      small-request false u = tt

  pub request-kept : map field_means (kept false (lines_at at (request_lines t m a fs c ts))) ≡ fs
  unfolding lines_at
  request-kept = ap (map field_means) (host-kept a at _) ∙ lead-kept false fs v (request_length t m c ts) _

-- ---- heads of final responses

-- the length line of a final response of status s that means w, and its lines
abbrev pub response_length : Told → ℕ → Meaning → LengthLine
response_length t s w = line_for (no_fields w.trailers) (ends_at_head t s) w.stated (length w.content)

abbrev pub response_lines : Told → ℕ → Meaning → List Field
response_lines t s w = length_fields (response_length t s w) ++ w.headers

-- a stated length's line tells what is stated
stated-told : (x : Option ℕ) (p : ℕ) → framing_for (stated_line x) p ≡ stated_framing x p
stated-told None p = refl
stated-told (Some n) p = refl

module _ (t : Told) (s : ℕ) (w : Meaning) (hs : List Informational) (control : w.control ≡ response hs s) (v : valid_fields true w.headers ≡ true)
    (few : length w.content ≤ content_most) (stated : valid_stated w.stated w ≡ true) (fits : Suited t s w) where
  response-states : (at : ℕ) → framing_of (lines_at at (response_lines t s w)) ≡ framing_for (response_length t s w) at
  response-states at =
      lead-framing true w.headers v (response_length t s w)
      (small_line (no_fields w.trailers) (ends_at_head t s) w.stated (length w.content) few w stated) at

  body-with : (x : Option ℕ) (end p : ℕ) (b u : Bool) → no_fields w.trailers ≡ b → ends_at_head t s ≡ u
      → response_body t x s end (framing_for (line_for b u w.stated (length w.content)) p) ≡ good (cond b (Sized (length w.content)) InChunks)
  unfolding response_body content_body request_body valid_body
  body-with x end p true true n e =
      let z = and_split (is_empty w.content) (no_fields w.trailers) (rw e at fits.body) in
      let q = bodyless-good t s end w.stated p hs w control stated in
      rw (e, stated-told w.stated p) (q ∙ ap (λ (k : ℕ). good (Sized k)) (no-octets w.content z.0))
  body-with x end p true false n e = rw (e, le-leb (length w.content) content_most few)
  body-with x end p false true n e = let z = (and_split (is_empty w.content) (no_fields w.trailers) (rw e at fits.body)).1 in cc
  body-with x end p false false n e = rw e

  -- it states a length, or is chunked, or ends at its head: where the stream ends does not matter
  pub response-told : (x : Option ℕ) (end at : ℕ) → response_body t x s end (framing_of (lines_at at (response_lines t s w))) ≡ good (body_for w.content w.trailers)
  response-told x end at = rw (response-states at) (body-with x end at (no_fields w.trailers) (ends_at_head t s) refl refl)

  stated-with : (p : ℕ) (b u : Bool) → no_fields w.trailers ≡ b → ends_at_head t s ≡ u
      → cond u (length_in (framing_for (line_for b u w.stated (length w.content)) p)) None ≡ w.stated
  unfolding valid_body
  stated-with p true true n e = rw (stated-told w.stated p) (stated-back w.stated p)
  stated-with p false true n e = let z = (and_split (is_empty w.content) (no_fields w.trailers) (rw e at fits.body)).1 in cc
  stated-with p b false n e = sym (fits.missing e)

  pub response-stated : (at : ℕ) → stated_in t s (framing_of (lines_at at (response_lines t s w))) ≡ w.stated
  unfolding stated_in
  response-stated at = rw (response-states at) (stated-with at (no_fields w.trailers) (ends_at_head t s) refl refl)

pub response-kept : (t : Told) (s : ℕ) (w : Meaning) (at : ℕ) → valid_fields true w.headers ≡ true
    → map field_means (kept true (lines_at at (response_lines t s w))) ≡ w.headers
response-kept t s w at v = lead-kept true w.headers v (response_length t s w) at
