-- Content and trailers are read back.
use mathlib.Core.Path.{◌≡◌, refl, sym, ap, ◌∙◌}
use mathlib.Core.Bool.{Bool, true, false, cond}
use mathlib.Core.List.{List, [], ◌∷◌, ◌++◌, append_assoc}
use Prim.Native.Nat.{ℕ, zero, suc, ◌+◌, ◌≤◌, ◌<◌}
use native.Mathlib.Omega.{arith}
use borrow.Author.Tests.{le-ltb}
use lib.Dec.{lit<}
use lib.ListN.{length, length-append}
use lib.Seq.{take-append_seam, drop_at}
use Rattle.octets.specs.Ascii.{ascii}
use Rattle.octets.specs.Text.{is_empty}
use Rattle.octets.specs.Limits.{trailer_most, chunk_line_most, chunks_most, content_most}
use Rattle.octets.proofs.Texts.{same_refl}
use Rattle.numbers.specs.Digits.{digits}
use Rattle.numbers.proofs.DigitLaws.{count_most, digits-length}
use Rattle.script.specs.Script.{some_octets}
use Rattle.script.specs.Do.{Piece, piece, good, Reads}
use Rattle.script.proofs.Do.{reads-done, reads_word, reads-tell, reads-bind, before, behind}
use Rattle.messages.specs.Message.{non_empty}
use Rattle.messages.specs.Meaning.{Field}
use Rattle.messages.specs.Valid.{valid_section}
use Rattle.messages.specs.declared.Body.TheVariants.{InChunks}
use Rattle.messages.proofs.Valid.{section-fields, section-few}
use Rattle.messages.proofs.Stating.{fields-ok}
use Rattle.http1_lines.specs.Read.{line_within, Content, trailer_section, chunk_data, chunks_from, content}
use Rattle.http1_writer.specs.Write.{crlf, section_text, chunk_text, chunked_text, body_text}
use Rattle.http1_round_trip.proofs.Placed.{lines_at, content_at}
use Rattle.http1_round_trip.proofs.Lines.{chunk-clean, chunk-good, end_clean, end-good}
use Rattle.http1_round_trip.proofs.Sections.{reads-from, reads_as, reads_section}
use Rattle.http1_round_trip.proofs.Keeping.{are-trailers, body_for}

abbrev content_to : List Piece → ℕ → List Field → Content
content_to cs at ts = record { chunks = cs; trailers = lines_at at ts }

-- what trailers keep to: valid, and within their size
pub record TrailersOk (ts : List Field) : Type 0 where
  pub valid : valid_section false ts ≡ true
  pub fit : length (section_text ts) ≤ trailer_most

module _ (ts : List Field) (ok : TrailersOk ts) where
  reads-trailers : (cs : List Piece) (at : ℕ) → Reads (trailer_section cs) at (section_text ts) (content_to cs at ts)
  unfolding trailer_section
  reads-trailers cs at =
      let v = section-fields false ts ok.valid in
      behind _ (reads_section ts trailer_most at (fields-ok false ts v) (section-few false ts ok.valid) ok.fit) (rw (are-trailers ts at v) (reads-done _ _))

  -- the last chunk line and the trailers
  reads_end : (f : ℕ) (cs : List Piece) (total at : ℕ) → 0 < f
      → Reads (chunks_from f cs total) at (ascii "0" ++ crlf ++ section_text ts) (content_to cs (at + length (ascii "0" ++ crlf)) ts)
  unfolding chunks_from
  reads_end zero cs total at h = absurd (omega arith)
  reads_end (suc f) cs total at h =
      reads-bind _ (reads_word (line_within chunk_line_most) at (ascii "0") (end_clean.lf, end_clean.cr, omega arith))
      (before _ (reads-tell _ _ _ (end-good at)) (reads-trailers cs _))

  -- one chunk, the last chunk line and the trailers
  module _ (c : List ℕ) (some : is_empty c ≡ false) (few : length c ≤ content_most) where
    abbrev size_line : List ℕ
    size_line = digits 16 (length c) ++ crlf

    data-good : (at : ℕ) → chunk_data (length c) (piece at (c ++ crlf)) ≡ good (piece at c)
    unfolding chunk_data
    data-good at = rw (drop_at c crlf, same_refl crlf, take-append_seam c crlf)

    line-short : length (digits 16 (length c)) + 2 ≤ chunk_line_most
    line-short =
        let a = count_most 16 (length c) in
        let b = digits-length 16 (length c) in
        omega arith

    reads-chunk : (f at : ℕ) → 1 < f
        → Reads (chunks_from f [] 0) at (size_line ++ ((c ++ crlf) ++ (ascii "0" ++ crlf ++ section_text ts)))
        (content_to (piece (at + length size_line) c ∷ []) (at + length size_line + length (c ++ crlf) + length (ascii "0" ++ crlf)) ts)
    unfolding chunks_from is_empty
    reads-chunk zero at h = absurd (omega arith)
    reads-chunk (suc f) at h =
        let k = chunk-clean (length c) in
        let l : length (c ++ crlf) ≡ length c + 2 = length-append c crlf in
        reads-bind _ (reads_word (line_within chunk_line_most) at (digits 16 (length c)) (k.lf, k.cr, line-short))
        (before _ (reads-tell _ _ _ (chunk-good (length c) at few))
        (rw (some, le-ltb content_most (0 + length c) (omega arith))
        (reads-bind _ (reads_word (some_octets (length c + 2)) _ (c ++ crlf) l)
        (before _ (reads-tell _ _ _ (data-good _)) (reads_end f _ _ _ (omega arith))))))

    parts : ((size_line ++ c ++ crlf) ++ ascii "0" ++ crlf) ++ section_text ts ≡ size_line ++ ((c ++ crlf) ++ (ascii "0" ++ crlf ++ section_text ts))
    parts =
        let x : List ℕ = size_line ++ c ++ crlf in
        let y : List ℕ = ascii "0" ++ crlf ++ section_text ts in
        append_assoc (x ++ ascii "0") crlf (section_text ts) ∙ append_assoc x (ascii "0") (crlf ++ section_text ts) ∙ append_assoc (size_line ++ c) crlf y
        ∙ append_assoc size_line c (crlf ++ y) ∙ ap (λ (z : List ℕ). size_line ++ z) (sym (append_assoc c crlf y))

    places : (at : ℕ) → at + length size_line + length (c ++ crlf) + length (ascii "0" ++ crlf) ≡ at + length ((size_line ++ c ++ crlf) ++ ascii "0" ++ crlf)
    places at =
        let l1 : length (((size_line ++ c ++ crlf) ++ ascii "0") ++ crlf) ≡ length ((size_line ++ c ++ crlf) ++ ascii "0") + 2 = length-append ((size_line ++ c ++ crlf) ++ ascii "0") crlf in
        let l2 : length ((size_line ++ c ++ crlf) ++ ascii "0") ≡ length (size_line ++ c ++ crlf) + 1 = length-append (size_line ++ c ++ crlf) (ascii "0") in
        let l3 : length ((size_line ++ c) ++ crlf) ≡ length (size_line ++ c) + 2 = length-append (size_line ++ c) crlf in
        let l4 : length (size_line ++ c) ≡ length size_line + length c = length-append size_line c in
        let l5 : length (c ++ crlf) ≡ length c + 2 = length-append c crlf in
        omega arith

    reads-some : (f at : ℕ) → 1 < f
        → Reads (chunks_from f [] 0) at (((size_line ++ c ++ crlf) ++ ascii "0" ++ crlf) ++ section_text ts)
        (content_to (piece (at + length size_line) c ∷ []) (at + length ((size_line ++ c ++ crlf) ++ ascii "0" ++ crlf)) ts)
    reads-some f at h =
        reads_as (ap (λ (z : ℕ). content_to (piece (at + length size_line) c ∷ []) z ts) (places at)) (reads-from parts (reads-chunk f at h))

-- ---- the body of a message

chunked : (ts : List Field) → TrailersOk ts → (c : List ℕ) → length c ≤ content_most → (at : ℕ)
    → Reads (content InChunks) at (chunked_text c ts)
    (content_to (non_empty (piece (at + length (digits 16 (length c) ++ crlf)) c)) (at + length (chunk_text c ++ ascii "0" ++ crlf)) ts)
unfolding content chunked_text chunk_text
chunked ts ok c few at = go (is_empty c) refl
  where
    go : (b : Bool) → is_empty c ≡ b
        → Reads (chunks_from (suc chunks_most) [] 0) at (cond b [] (digits 16 (length c) ++ crlf ++ c ++ crlf) ++ ascii "0" ++ crlf ++ section_text ts)
        (content_to (cond b [] (piece (at + length (digits 16 (length c) ++ crlf)) c ∷ [])) (at + length (cond b [] (digits 16 (length c) ++ crlf ++ c ++ crlf) ++ ascii "0" ++ crlf)) ts)
    go true e = reads_end ts ok (suc chunks_most) [] 0 at (lit< tt)
    go false e = reads-some ts ok c e few (suc chunks_most) at (lit< tt)

pub reads-body : (c : List ℕ) (ts : List Field) (at : ℕ) → length c ≤ content_most → TrailersOk ts
    → Reads (content (body_for c ts)) at (body_text c ts) (content_at at c ts)
unfolding content body_text lines_at
reads-body c [] at few ok = behind _ (reads_word (some_octets (length c)) at c refl) (reads-done _ _)
reads-body c (x ∷ ts) at few ok = chunked (x ∷ ts) ok c few at
