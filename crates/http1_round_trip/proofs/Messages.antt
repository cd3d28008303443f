-- Whole requests and responses are read back.
use mathlib.Core.Path.{◌≡◌, sym, ap, ap₂, ◌∙◌, subst}
use mathlib.Core.Bool.{true, false}
use mathlib.Core.List.{List, [], ◌∷◌, ◌++◌, append_assoc, append-nil}
use Prim.Native.Nat.{ℕ, zero, suc, ◌+◌, ◌-◌, ◌≤◌, ◌<◌}
use native.Mathlib.Omega.{arith}
use borrow.Author.Tests.{lt-leb}
use lib.ListN.{length, length-append}
use Rattle.std.proofs.Common.{Option, None}
use Rattle.octets.specs.Ascii.{ascii}
use Rattle.octets.specs.Limits.{head_most, lines_most, content_most, informational_most}
use Rattle.script.specs.Do.{piece, good, Reads}
use Rattle.script.proofs.Do.{reads-done, reads_word, reads-tell, reads-bind, before, behind}
use Rattle.messages.specs.declared.Told.{Told}
use Rattle.messages.specs.Message.{InformationalRead, request_start, response_start, Message, whole_path}
use Rattle.messages.specs.Control.{method_verdict, path_verdict, is_host, status_verdict, is_informational, is_options, passed}
use Rattle.messages.specs.Rules.{framing_of, nothing_stated, target_authority}
use Rattle.messages.specs.declared.Body.TheVariants.{Sized}
use Rattle.messages.specs.Meaning.{Field, Informational, response, Meaning}
use Rattle.messages.specs.Valid.{valid_fields, valid_heads, valid_stated}
use Rattle.messages.proofs.Valid.{section-fields, section-few, HeadOk, head_ok}
use Rattle.messages.proofs.Stating.{fields-ok, Suited}
use Rattle.http1_lines.specs.Read.{line_within, after_head, request, ResponseCall, after_final, heads, heads_then}
use Rattle.http1_writer.specs.Write.{crlf, section_text, request_line, status_line, informational_text, body_text}
use Rattle.http1_round_trip.proofs.Placed.{lines_at, head_at, heads_at, placed_from}
use Rattle.http1_round_trip.proofs.Lines.{host-line, request-clean, request-good, status_word, status-clean, status-good}
use Rattle.http1_round_trip.proofs.Sections.{reads-from, reads_as, reads_section}
use Rattle.http1_round_trip.proofs.Keeping.{unstated, lead-ok, request_length, request_lines, request-host, request-told, response_length, response_lines, response-told, response-stated}
use Rattle.http1_round_trip.proofs.Body.{TrailersOk, reads-body}
use Rattle.octets.specs.Text.{is_empty}

-- ---- requests

pub reads-request : (t : Told) (m a p : List ℕ) (fs : List Field) (c : List ℕ) (ts : List Field) (at : ℕ)
    → method_verdict m ≡ passed → is_host a ≡ true → path_verdict (is_options m) p ≡ passed → valid_fields false fs ≡ true → length c ≤ content_most → TrailersOk ts
    → length (request_lines t m a fs c ts) ≤ lines_most → length (request_line m p ++ section_text (request_lines t m a fs c ts)) ≤ head_most
    → Reads (request t) at (request_line m p ++ (section_text (request_lines t m a fs c ts) ++ body_text c ts))
    (placed_from (request_start (piece at m) t.scheme (piece (at + length (request_line m p) + 6) a) (whole_path (piece (at + (length m + 1)) p))) (at + length (request_line m p)) (request_lines t m a fs c ts) c ts None)
unfolding request after_head request_line target_authority is_empty
reads-request t m a p fs c ts at hm ha hp v few ok lines fit =
    let w : List ℕ = m ++ 32 ∷ [] ++ p ++ ascii " HTTP/1.1" in
    let s : List ℕ = section_text (request_lines t m a fs c ts) in
    let l1 : length ((w ++ crlf) ++ s) ≡ length (w ++ crlf) + length s = length-append (w ++ crlf) s in
    let l2 : length (w ++ crlf) ≡ length w + 2 = length-append w crlf in
    let k = request-clean m p hm hp in
    reads-bind _ (reads_word (line_within head_most) at w (k.lf, k.cr, omega arith))
    (before _ (reads-tell _ _ _ (request-good m p hm hp t.scheme at))
    (reads-bind _ (reads_section (request_lines t m a fs c ts) (head_most - (length w + 2)) _ (host-line a ha, lead-ok false fs v (request_length t m c ts)) lines (omega arith))
    (before _ (reads-tell _ _ _ (request-host t m a fs c ts _ v _ ha))
    (before _ (reads-tell _ _ _ (request-told t m a fs c ts _ v _ few))
    (behind _ (reads-body c ts _ few ok) (reads-done _ _))))))

-- ---- responses

none-stated : (fs : List Field) (at end : ℕ) → valid_fields true fs ≡ true → nothing_stated end (framing_of (lines_at at fs)) ≡ good (Sized 0)
unfolding nothing_stated
none-stated fs at end v = rw (unstated true fs at v)

-- an informational head, and what is behind it
reads-head : (q : ResponseCall) (x : Informational) (f left at : ℕ) (is : List InformationalRead) {y : List ℕ} {b : Message} → HeadOk x → length is < informational_most
    → length (status_line x.status) + length (section_text x.fields) ≤ left
    → Reads (heads q f (is ++ head_at at x ∷ []) (left - length (status_line x.status) - length (section_text x.fields)))
    (at + length (status_line x.status) + length (section_text x.fields)) y b
    → Reads (heads q (suc f) is left) at (status_line x.status ++ (section_text x.fields ++ y)) b
unfolding heads_then status_line
reads-head q x f left at is {y} {b} o g fit ih =
    let w : List ℕ = status_word x.status in
    let l : length (w ++ crlf) ≡ length w + 2 = length-append w crlf in
    let n : ℕ = length (section_text x.fields) in
    let e : left - length (w ++ crlf) - n ≡ left - (length w + 2) - n = omega arith in
    let k = status-clean x.status in
    let v = section-fields true x.fields o.fields in
    let u : nothing_stated (at + length (w ++ crlf) + length (section_text x.fields)) (framing_of (lines_at (at + length (w ++ crlf)) x.fields)) ≡ good (Sized 0) =
    none-stated x.fields _ _ v in
    reads-bind _ (reads_word (line_within left) at w (k.lf, k.cr, omega arith))
    (before _ (reads-tell _ _ _ (status-good x.status at o.status))
    (rw (o.early, lt-leb informational_most (length is) g)
    (reads-bind _ (reads_section x.fields (left - (length w + 2)) _ (fields-ok true x.fields v) (section-few true x.fields o.fields) (omega arith))
    (before _ (reads-tell _ _ _ u) (subst (λ (z : ℕ). Reads (heads q f (is ++ head_at at x ∷ []) z) (at + length (w ++ crlf) + n) y b) e ih)))))

-- a final head and what is behind it
module _ (q : ResponseCall) (s : ℕ) (w : Meaning) (all : List Informational) (control : w.control ≡ response all s)
    (verdict : status_verdict s ≡ passed) (late : is_informational s ≡ false) (v : valid_fields true w.headers ≡ true) (few : length w.content ≤ content_most)
    (ok : TrailersOk w.trailers) (stated : valid_stated w.stated w ≡ true) (fits : Suited q.told s w) (lines : length (response_lines q.told s w) ≤ lines_most) where
  abbrev final : List Field
  final = response_lines q.told s w

  abbrev final_to : List InformationalRead → ℕ → Message
  final_to is at = placed_from (response_start is s) at final w.content w.trailers w.stated

  reads-final : (f left at : ℕ) (is : List InformationalRead) → 0 < f → length (status_line s ++ section_text final) ≤ left
      → Reads (heads q f is left) at (status_line s ++ (section_text final ++ body_text w.content w.trailers)) (final_to is (at + length (status_line s)))
  unfolding heads_then after_final status_line
  reads-final zero left at is h fit = absurd (omega arith)
  reads-final (suc f) left at is h fit =
      let i : List ℕ = status_word s in
      let l1 : length ((i ++ crlf) ++ section_text final) ≡ length (i ++ crlf) + length (section_text final) = length-append (i ++ crlf) (section_text final) in
      let l2 : length (i ++ crlf) ≡ length i + 2 = length-append i crlf in
      let k = status-clean s in
      let p : ℕ = at + length (i ++ crlf) in
      let e = response-stated q.told s w all control v few stated fits p in
      reads_as (ap (λ (x : Option ℕ). placed_from (response_start is s) p final w.content w.trailers x) e)
      (reads-bind _ (reads_word (line_within left) at i (k.lf, k.cr, omega arith))
      (before _ (reads-tell _ _ _ (status-good s at verdict))
      (rw late
      (reads-bind _ (reads_section final (left - (length i + 2)) _ (lead-ok true w.headers v (response_length q.told s w)) lines (omega arith))
      (before _ (reads-tell _ _ _ (response-told q.told s w all control v few stated fits q.ending _ _))
      (behind _ (reads-body w.content w.trailers _ few ok) (reads-done _ _)))))))

  pub reads-response : (hs : List Informational) (f left at : ℕ) (is : List InformationalRead) → valid_heads hs ≡ true → length hs < f
      → length is + length hs ≤ informational_most → length (informational_text hs ++ (status_line s ++ section_text final)) ≤ left
      → Reads (heads q f is left) at (informational_text hs ++ (status_line s ++ (section_text final ++ body_text w.content w.trailers)))
      (final_to (is ++ heads_at at hs) (at + length (informational_text hs ++ status_line s)))
  unfolding informational_text heads_at
  reads-response [] f left at is o h g fit =
      reads_as (ap (λ (l : List InformationalRead). final_to l (at + length (status_line s))) (sym (append-nil is))) (reads-final f left at is (omega arith) fit)
  reads-response (x ∷ hs) zero left at is o h g fit = absurd (omega arith)
  reads-response (x ∷ hs) (suc f) left at is o h g fit =
      let i : List ℕ = status_line x.status in
      let d : List ℕ = section_text x.fields in
      let r : List ℕ = informational_text hs in
      let l1 : length (i ++ d) ≡ length i + length d = length-append i d in
      let l2 : length (((i ++ d) ++ r) ++ (status_line s ++ section_text final)) ≡ length ((i ++ d) ++ r) + length (status_line s ++ section_text final) = length-append ((i ++ d) ++ r) (status_line s ++ section_text final) in
      let l3 : length ((i ++ d) ++ r) ≡ length (i ++ d) + length r = length-append (i ++ d) r in
      let l4 : length (r ++ (status_line s ++ section_text final)) ≡ length r + length (status_line s ++ section_text final) = length-append r (status_line s ++ section_text final) in
      let l5 : length (((i ++ d) ++ r) ++ status_line s) ≡ length ((i ++ d) ++ r) + length (status_line s) = length-append ((i ++ d) ++ r) (status_line s) in
      let l6 : length (r ++ status_line s) ≡ length r + length (status_line s) = length-append r (status_line s) in
      let l7 : length (is ++ head_at at x ∷ []) ≡ length is + 1 = length-append is (head_at at x ∷ []) in
      let y : List ℕ = status_line s ++ (section_text final ++ body_text w.content w.trailers) in
      let z : ℕ = at + length i + length d in
      let e1 : z ≡ at + length (i ++ d) = omega arith in
      let e2 : z + length (r ++ status_line s) ≡ at + length (((i ++ d) ++ r) ++ status_line s) = omega arith in
      let e3 : (is ++ head_at at x ∷ []) ++ heads_at z hs ≡ is ++ head_at at x ∷ heads_at (at + length (i ++ d)) hs =
      append_assoc is (head_at at x ∷ []) (heads_at z hs) ∙ ap (λ (y : ℕ). is ++ head_at at x ∷ heads_at y hs) e1 in
      let e4 : ((i ++ d) ++ r) ++ y ≡ i ++ (d ++ (r ++ y)) = append_assoc (i ++ d) r y ∙ append_assoc i d (r ++ y) in
      let p = head_ok x hs o in
      let ih = reads-response hs f (left - length i - length d) z (is ++ head_at at x ∷ []) p.1 (omega arith) (omega arith) (omega arith) in
      reads_as (ap₂ (λ (l : List InformationalRead) (z : ℕ). final_to l z) e3 e2) (reads-from e4 (reads-head q x f left at is p.0 (omega arith) (omega arith) ih))
