-- What is written by numbers is what the definitions say of the message that the numbers name.
-- Assumes nothing.
use Prim.Native.Nat.{ℕ, zero, suc, ◌+◌}
use mathlib.Core.Path.{◌≡◌, refl, sym, ap, ◌∙◌}
use mathlib.Core.Bool.{Bool, true, false, cond, ◌&&◌}
use mathlib.Core.List.{List, [], ◌∷◌, ◌++◌, append_assoc}
use native.Mathlib.Omega.{arith}
use borrow.Author.Tests.{ne_eqb}
use lib.Dec.{eqb, leb}
use lib.ListN.{length, length-append}
use Rattle.std.proofs.Common.{Option}
use Rattle.octets.specs.Text.{is_empty}
use Rattle.octets.specs.Limits.{head_most, lines_most, trailer_most}
use Rattle.octets.specs.Refusals.{too_large, other_scheme}
use Rattle.numbers.proofs.DigitLaws.{digits-length}
use Rattle.output.specs.Reply.{writes, refuses}
use Rattle.output.proofs.Laws.{elements-length}
use Rattle.messages.specs.declared.Record.{Record}
use Rattle.messages.specs.Control.{ends_at_head}
use Rattle.messages.specs.Meaning.{Field, content_of}
use Rattle.messages.specs.Valid.{no_fields}
use Rattle.ranges.specs.Entries.{fields_in, chunks_in, heads_in, part_in, control_in, fields_before, meaning_in, fields_named, path_in, path_size}
use Rattle.messages.specs.declared.Told.{Told}
use Rattle.http1_writer.specs.declared.LengthLine.{LengthLine}
use Rattle.http1_writer.specs.Write.{field_text, section_text, request_line, status_line, informational_text, host_field, unmeasured, line_for, length_line, length_fields, host_line, head_lines, start_text, head_text, body_text, http1_of, http1_fits, on_connection, to_http1, is_silent}
use Rattle.http1_writer.specs.Numbered.{heads_size, status_size, request_size, host_size, unmeasured_in, length_line_in, lines_text, length_text, length_size, length_count, lead_text_in, lead_size, head_text_in, head_size, message_text_in, head_count, trailers_fit, fits_in, connected_in}
use Rattle.http1_writer.proofs.Turns.{section-length, heads-length}

-- lines before a section
pub lines-section : (a b : List Field) → section_text (a ++ b) ≡ lines_text a ++ section_text b
unfolding section_text lines_text
lines-section [] b = refl
lines-section (f ∷ a) b = rw (lines-section a b) (sym (append_assoc (field_text f) (lines_text a) (section_text b)))

module _ (s fs : List ℕ) where
  pub fields-count : (k n : ℕ) → length (fields_named s fs k n) ≡ n
  unfolding fields_in
  fields-count k zero = refl
  fields-count k (suc n) = ap suc (fields-count (k + 1) n)

  pub no-fields : (n : ℕ) → no_fields (fields_named s fs 0 n) ≡ eqb n 0
  unfolding fields_in
  no-fields zero = refl
  no-fields (suc n) = sym (ne_eqb (suc n) 0 (λ e. omega arith))

-- ---- the head

lines_same : {a a' b b' : Bool} (x : Option ℕ) {n n' : ℕ} → a ≡ a' → b ≡ b' → n ≡ n' → line_for a b x n ≡ line_for a' b' x n'
lines_same x p q e = cc

module _ (s : List ℕ) (r : Record) (hs ns : List ℕ) where
  unmeasured-means : (t : Told) (b : Bool) (content : List ℕ) → length content ≡ r.content
      → unmeasured t (control_in b s r hs ns) content ≡ cond b (ends_at_head t r.status) (cond (eqb r.content 0) (is_silent t (part_in s r.method)) false)
  unfolding is_empty
  unmeasured-means t true content e = refl
  unmeasured-means t false content e = rw e

  head-with : (b : Bool) (l h : List Field)
      → start_text (control_in b s r hs ns) ++ section_text (host_line (control_in b s r hs ns) ++ l ++ h)
      ≡ cond b
      (informational_text (heads_in s hs ns 0 r.informational) ++ status_line r.status)
      (request_line (part_in s r.method) (path_in s r.prefix r.path) ++ field_text (host_field (part_in s r.authority)))
      ++ lines_text l
      ++ section_text h
  unfolding section_text
  head-with true l h =
      let a = informational_text (heads_in s hs ns 0 r.informational) ++ status_line r.status in
      ap (λ (x : List ℕ). a ++ x) (lines-section l h) ∙ sym (append_assoc a (lines_text l) (section_text h))
  head-with false l h =
      let a = request_line (part_in s r.method) (path_in s r.prefix r.path) in
      let f = field_text (host_field (part_in s r.authority)) in
      ap (λ (x : List ℕ). a ++ (f ++ x)) (lines-section l h)
      ∙ sym (append_assoc a f (lines_text l ++ section_text h))
      ∙ sym (append_assoc (a ++ f) (lines_text l) (section_text h))

  count-with : (b : Bool) (l h : List Field) → length (host_line (control_in b s r hs ns) ++ l ++ h) ≡ cond b 0 1 + length l + length h
  count-with true l h = length-append l h ∙ omega arith
  count-with false l h = ap suc (length-append l h) ∙ omega arith

  lead-with : (b : Bool)
      → length (cond b
      (informational_text (heads_in s hs ns 0 r.informational) ++ status_line r.status)
      (request_line (part_in s r.method) (path_in s r.prefix r.path) ++ field_text (host_field (part_in s r.authority))))
      ≡ cond b (heads_size hs ns 0 r.informational + status_size r.status) (request_size r.method (path_size r.prefix r.path) + host_size r.authority)
  unfolding status_line request_line field_text host_field
  lead-with true =
      length-append (informational_text (heads_in s hs ns 0 r.informational)) (status_line r.status)
      ∙ rw (heads-length s hs ns 0 r.informational) (simp (length-append, digits-length) (omega arith))
  lead-with false = simp (length-append, elements-length) (omega arith)

  pub head-long : (l : LengthLine) → length (head_text_in s r l hs ns) ≡ head_size r l hs ns
  unfolding head_text_in head_size lead_text_in lead_size length_size
  head-long l =
      let k = fields_before ns r.informational in
      length-append (lead_text_in s r hs ns ++ length_text l) (section_text (fields_named s hs k r.headers))
      ∙ rw (length-append (lead_text_in s r hs ns) (length_text l), lead-with r.response, section-length s hs k r.headers)

-- ---- the whole message

fits-same : {a a' b b' : ℕ} {x x' : Bool} {d d' : ℕ} → a ≡ a' → b ≡ b' → x ≡ x' → d ≡ d'
    → leb a head_most && leb b lines_most && cond x true (leb d trailer_most) ≡ leb a' head_most && leb b' lines_most && cond x' true (leb d' trailer_most)
fits-same p q u v = cc

to_same : {a a' b b' : Bool} (w : List ℕ) → a ≡ a' → b ≡ b'
    → cond a (cond b (writes w) (refuses too_large 0)) (refuses other_scheme 0) ≡ cond a' (cond b' (writes w) (refuses too_large 0)) (refuses other_scheme 0)
to_same w p q = cc

module _ (t : Told) (s : List ℕ) (r : Record) (hs ns cs ts : List ℕ) (e : length (content_of (chunks_in s cs 0 r.chunks)) ≡ r.content) where
  -- the one decision: what the code decides by numbers is the length line of the meaning
  length-means : length_line t (meaning_in s r hs ns cs ts) ≡ length_line_in t s r
  unfolding meaning_in length_line length_line_in unmeasured_in
  length-means =
      lines_same r.stated (no-fields s ts r.trailers) (unmeasured-means s r hs ns t r.response (content_of (chunks_in s cs 0 r.chunks)) e) e

  -- for the length line l that was decided
  module _ {l : LengthLine} (d : l ≡ length_line_in t s r) where
    pub head-means : head_text t (meaning_in s r hs ns cs ts) ≡ head_text_in s r l hs ns
    unfolding meaning_in head_text head_lines head_text_in lead_text_in length_text
    head-means =
        let h = fields_named s hs (fields_before ns r.informational) r.headers in
        let c = control_in r.response s r hs ns in
        ap (λ (x : LengthLine). start_text c ++ section_text (host_line c ++ length_fields x ++ h)) (length-means ∙ sym d)
        ∙ head-with s r hs ns r.response (length_fields l) h

    pub count-means : length (head_lines t (meaning_in s r hs ns cs ts)) ≡ head_count r l
    unfolding meaning_in head_lines head_count length_count
    count-means =
        let h = fields_named s hs (fields_before ns r.informational) r.headers in
        let c = control_in r.response s r hs ns in
        ap (λ (x : LengthLine). length (host_line c ++ length_fields x ++ h)) (length-means ∙ sym d)
        ∙ count-with s r hs ns r.response (length_fields l) h
        ∙ ap (λ (n : ℕ). cond r.response 0 1 + length (length_fields l) + n) (fields-count s hs (fields_before ns r.informational) r.headers)

    pub http1-means : http1_of t (meaning_in s r hs ns cs ts) ≡ message_text_in s r l hs ns cs ts
    unfolding meaning_in http1_of message_text_in
    http1-means = ap (λ (h : List ℕ). h ++ body_text (content_of (chunks_in s cs 0 r.chunks)) (fields_named s ts 0 r.trailers)) head-means

    pub fits-means : http1_fits t (meaning_in s r hs ns cs ts) ≡ fits_in (head_size r l hs ns) r l ts
    unfolding meaning_in http1_fits fits_in trailers_fit
    fits-means =
        fits-same
        (ap length head-means ∙ head-long s r hs ns l)
        count-means
        (no-fields s ts r.trailers)
        (section-length s ts 0 r.trailers)

  connected-with : (b : Bool) → on_connection t (control_in b s r hs ns) ≡ cond b true (eqb r.scheme t.scheme)
  connected-with true = refl
  connected-with false = refl

  -- what is to be written, by the tests on numbers
  pub to-means : {l : LengthLine} → l ≡ length_line_in t s r
      → to_http1 t (meaning_in s r hs ns cs ts)
      ≡ cond (connected_in t r)
      (cond (fits_in (head_size r l hs ns) r l ts) (writes (http1_of t (meaning_in s r hs ns cs ts))) (refuses too_large 0))
      (refuses other_scheme 0)
  unfolding meaning_in to_http1 connected_in
  to-means d = to_same (http1_of t (meaning_in s r hs ns cs ts)) (connected-with r.response) (fits-means d)
