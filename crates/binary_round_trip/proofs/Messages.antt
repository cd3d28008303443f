-- Content, trailers and whole messages are read back.
use mathlib.Core.Path.{◌≡◌, refl, sym, ap, ap₂, ◌∙◌}
use mathlib.Core.Bool.{Bool, true, false, cond, not, ◌||◌}
use mathlib.Core.List.{List, [], ◌∷◌, ◌++◌, append_assoc, append-nil}
use Prim.Native.Nat.{ℕ, zero, suc, ◌+◌, ◌≤◌, ◌<◌}
use native.Mathlib.Omega.{arith}
use borrow.Author.Tests.{lt-leb, ne_eqb}
use lib.Dec.{leb, eqb, lit<}
use lib.ListN.{length, length-append}
use Rattle.std.proofs.Common.{Option, None}
use Rattle.octets.specs.Text.{is_empty}
use Rattle.octets.specs.Limits.{lines_most, content_most, binary_most, informational_most}
use Rattle.octets.specs.Refusals.{cut_off}
use Rattle.octets.proofs.Kit.{and_split}
use Rattle.numbers.specs.Integer.{integer_end, int_bytes}
use Rattle.numbers.proofs.IntegerLaws.{int-length, int-some}
use Rattle.script.specs.Do.{piece, good}
use Rattle.messages.specs.Message.{Section, InformationalRead, Start, request_start, response_start, non_empty, stating_message, whole_path}
use Rattle.messages.specs.Control.{status_verdict, is_informational, ends_at_head, passed}
use Rattle.messages.specs.Names.{kept_trailers}
use Rattle.messages.specs.Rules.{authority_from, authority_in, binary_framing_of, may_state, nothing_stated, bodyless_rule, stated_in}
use Rattle.messages.specs.declared.Body.TheVariants.{Sized}
use Rattle.messages.specs.declared.Framing.TheVariants.{Unstated}
use Rattle.messages.specs.declared.Told.{Told}
use Rattle.messages.specs.Meaning.{Field, Informational, request, response, Meaning}
use Rattle.messages.specs.Valid.{valid_control, valid_section, valid_fields, valid_heads, valid_body, valid_stated, no_fields}
use Rattle.messages.proofs.Verdicts.{status-rule}
use Rattle.messages.proofs.Valid.{section-fields, section-few, head_ok, request-ok}
use Rattle.messages.proofs.Stating.{fields-ok, stated-lines, framing_for, stated-back, bodyless-good, Suited}
use Rattle.messages.proofs.ValidLines.{content-back}
use Rattle.binary.specs.Reader.{rule, integer}
use Rattle.binary.specs.Read.{rfc9292, known_content, content, content_agrees, content_rule, trailers_agree, trailer_rule, trailers, padding, after_content, after_headers, after_head, after_control}
use Rattle.binary.specs.Read.{header_section, request_message, after_final, after_final_status, after_informational, after_informational_status, heads}
use Rattle.binary_writer.specs.Write.{counted, fields_bytes, section_bytes, scheme_bytes, informational_bytes}
use Rattle.binary_round_trip.specs.RoundTrip.{counted_at, lines_at, section_at, head_at, heads_at, header_of, placed_from}
use Rattle.binary_round_trip.proofs.Judgement.{Reads, reads_none, reads-give, reads_here, reads-longs, reads-ended, reads-tell, reads-integer, reads-bind, before, behind, reads_as}
use Rattle.binary_round_trip.proofs.Parts.{reads-within, reads-request}
use Rattle.binary_round_trip.proofs.Lines.{both-fit, counted-fits, reads_section}
use Rattle.binary_round_trip.proofs.Keeping.{unstated, kept-all, header-framing, no-hosts, are-trailers, as_many}

-- ---- content

-- a length is at least one octet
counted-some : (w s : List ℕ) → length w < integer_end → is_empty (counted w ++ s) ≡ false
unfolding is_empty counted
counted-some w s h =
    let i = int-some (length w) h in
    let e = int-length (length w) in
    let l1 : length ((int_bytes (length w) ++ w) ++ s) ≡ length (int_bytes (length w) ++ w) + length s = length-append (int_bytes (length w) ++ w) s in
    let l2 : length (int_bytes (length w) ++ w) ≡ length (int_bytes (length w)) + length w = length-append (int_bytes (length w)) w in
    ne_eqb _ 0 (λ (q : length ((int_bytes (length w) ++ w) ++ s) ≡ 0). omega arith)

reads-content : (at : ℕ) (c rest : List ℕ) → length c ≤ content_most → Reads (content true) at (counted c) rest (non_empty (counted_at at c))
unfolding content known_content
reads-content at c rest h =
    before _ (reads-ended at _ false (counted-some c rest (omega arith)))
    (behind _ (reads-within content_most at c rest h (lit< tt)) (reads-give _ rest _))

-- ---- behind the control data

-- what a valid meaning has there, and that it is within the size
pub record TailOk (host body : Bool) (m : Meaning) : Type 0 where
  pub headers : valid_section host m.headers ≡ true
  pub lines : length (header_of m) ≤ lines_most
  pub headers_fit : length (section_bytes (header_of m)) ≤ binary_most
  pub content : length m.content ≤ content_most
  pub trailers : valid_section false m.trailers ≡ true
  pub trailers_fit : length (section_bytes m.trailers) ≤ binary_most
  pub body_rule : valid_body body m.content m.trailers ≡ true
  pub stated : valid_stated m.stated m ≡ true

abbrev pub tail_bytes : Meaning → List ℕ
tail_bytes m = section_bytes (header_of m) ++ (counted m.content ++ section_bytes m.trailers)

bodied : (body : Bool) (c : List ℕ) (ts : List Field) → valid_body body c ts ≡ true → ((body || is_empty c) ≡ true) × ((body || no_fields ts) ≡ true)
unfolding valid_body
bodied true c ts v = (refl, refl)
bodied false c ts v = and_split (is_empty c) (no_fields ts) v

agreed : (body c : Bool) → (body || c) ≡ true → cond body true c ≡ true
agreed true c h = refl
agreed false c h = h

content-good : (body : Bool) (end p : ℕ) (c : List ℕ) → (body || is_empty c) ≡ true
    → content_rule body Unstated end (non_empty (piece p c)) ≡ good (non_empty (piece p c))
unfolding content_rule content_agrees is_empty
content-good body end p c h = rw (content-back p c, agreed body (eqb (length c) 0) h)

trailers-good : (body : Bool) (end at : ℕ) (ts : List Field) → valid_fields false ts ≡ true → (body || no_fields ts) ≡ true
    → trailer_rule body (record { lines = section_at at ts; end = end }) ≡ good (section_at at ts)
unfolding trailer_rule trailers_agree kept_trailers
trailers-good body end at ts v h = rw (are-trailers ts _ v, kept-all false ts _ v false, as_many ts _, agreed body (no_fields ts) h)

reads-trailers : (body : Bool) (ts : List Field) (at : ℕ) (rest : List ℕ) → valid_section false ts ≡ true → length (section_bytes ts) ≤ binary_most
    → (body || no_fields ts) ≡ true → Reads (trailers (rfc9292 true) body) at (section_bytes ts) rest (section_at at ts)
unfolding trailers section_bytes
reads-trailers body ts at rest v h b =
    let f = counted-fits (fields_bytes ts) h in
    let o = section-fields false ts v in
    before _ (reads-ended at _ false (counted-some (fields_bytes ts) rest (omega arith)))
    (behind _ (reads_section ts at rest (fields-ok false ts o) (section-few false ts v) h) (reads-tell _ rest _ _ (trailers-good body _ at ts o b)))

reads-padding : (at : ℕ) → Reads (padding (rfc9292 true)) at [] [] at
unfolding padding
reads-padding at = reads_none refl

module _ (host body : Bool) (m : Meaning) (ok : TailOk host body m) where
  -- the header section, and what is behind it
  reads-header : (at : ℕ) (rest : List ℕ)
      → Reads (header_section (rfc9292 true)) at (section_bytes (header_of m)) rest (record { lines = section_at at (header_of m); end = at + length (section_bytes (header_of m)) })
  unfolding header_section section_bytes
  reads-header at rest =
      let l = fields-ok host m.headers (section-fields host m.headers ok.headers) in
      let f = counted-fits (fields_bytes (header_of m)) ok.headers_fit in
      before _ (reads-ended at _ false (counted-some (fields_bytes (header_of m)) rest (omega arith)))
      (before _ (reads_here at _) (reads_section (header_of m) at rest (stated-lines m.stated m.headers l) ok.lines ok.headers_fit))

  reads-bare : m.stated ≡ None → (at : ℕ) (rest : List ℕ)
      → Reads (header_section (rfc9292 true)) at (section_bytes m.headers) rest (record { lines = section_at at m.headers; end = at + length (section_bytes m.headers) })
  reads-bare e at rest = rw e at (reads-header at rest)

  reads-after : (x : Option ℕ) (start : Start) (h : Section) (at : ℕ)
      → Reads (after_headers (rfc9292 true) body x start h Unstated) at (counted m.content ++ section_bytes m.trailers) []
      (stating_message x start h.lines (non_empty (counted_at at m.content)) (section_at (at + length (counted m.content)) m.trailers))
  unfolding after_headers after_content
  reads-after x start h at =
      let b = bodied body m.content m.trailers ok.body_rule in
      reads-bind _ (reads-content at m.content _ ok.content)
      (before _ (reads_here _ _)
      (before _ (reads-tell _ _ _ _ (content-good body _ _ m.content b.0))
      (behind _ (reads-trailers body m.trailers _ [] ok.trailers ok.trailers_fit b.1) (before _ (reads-longs _ _) (before _ (reads-padding _) (reads-give _ [] _))))))

-- ---- no valid section states a length

may-state : (host : Bool) (fs : List Field) (at end : ℕ) → valid_section host fs ≡ true → may_state end (binary_framing_of (section_at at fs)) ≡ good Unstated
unfolding may_state
may-state host fs at end v = rw (unstated host fs _ (section-fields host fs v))

none-stated : (fs : List Field) (at end : ℕ) → valid_section true fs ≡ true → nothing_stated end (binary_framing_of (section_at at fs)) ≡ good (Sized 0)
unfolding nothing_stated
none-stated fs at end v = rw (unstated true fs _ (section-fields true fs v))

-- ---- requests

-- the authority of control data stays, where no line names a host
authority-good : (end at p : ℕ) (a : List ℕ) (hs : List Field) → is_empty a ≡ false → valid_fields false hs ≡ true
    → authority_in end (piece p a) (lines_at at hs) ≡ good (piece p a)
unfolding authority_in authority_from
authority-good end at p a hs h v = rw (no-hosts hs at v, h)

abbrev pub request_bytes : List ℕ → ℕ → List ℕ → List ℕ → List ℕ
request_bytes m s a p = counted m ++ (counted (scheme_bytes s) ++ (counted a ++ counted p))

abbrev pub request_at : ℕ → List ℕ → ℕ → List ℕ → List ℕ → Start
request_at at m s a p =
    request_start (counted_at at m) s (counted_at (at + length (counted m) + length (counted (scheme_bytes s))) a)
    (whole_path (counted_at (at + length (counted m) + length (counted (scheme_bytes s)) + length (counted a)) p))

pub reads-request-message : (w : Meaning) (m a p : List ℕ) (s at : ℕ) → valid_control (request m s a p) ≡ true → TailOk false true w → w.stated ≡ None
    → Reads (request_message (rfc9292 true)) at (request_bytes m s a p ++ tail_bytes w) [] (placed_from (request_at at m s a p) (at + length (request_bytes m s a p)) w)
unfolding request_message after_control after_head placed_from
reads-request-message w m a p s at v ok e =
    rw e
    (reads-bind _ (reads-request m a p s at _ v)
    (reads-bind _ (reads-bare false true w ok e _ _)
    (before _ (reads-tell _ _ _ _ (authority-good _ _ _ a w.headers (request-ok m a p s v).host.some (section-fields false w.headers ok.headers)))
    (before _ (reads-tell _ _ _ _ (may-state false w.headers _ _ ok.headers)) (reads-after false true w ok None _ _ _)))))

-- ---- responses

-- the header of a response that ends at it
module _ (t : Told) (w : Meaning) (hs : List Informational) (n : ℕ) (c : w.control ≡ response hs n) (body : Bool) (ok : TailOk true body w) (at : ℕ) where
  header-states : binary_framing_of (section_at at (header_of w)) ≡ framing_for w.stated (at + length (int_bytes (length (fields_bytes (header_of w)))))
  header-states = header-framing true w.headers (section-fields true w.headers ok.headers) w.stated w ok.stated _

  header-good : (end : ℕ) → bodyless_rule t n end (binary_framing_of (section_at at (header_of w))) ≡ good (Sized 0)
  header-good end = rw header-states (bodyless-good t n end w.stated _ hs w c ok.stated)

  header-stated : ends_at_head t n ≡ true → stated_in t n (binary_framing_of (section_at at (header_of w))) ≡ w.stated
  unfolding stated_in
  header-stated e = rw (e, header-states) (stated-back w.stated _)

reads-final : (t : Told) (w : Meaning) (hs : List Informational) (is : List InformationalRead) (n at : ℕ) → w.control ≡ response hs n → Suited t n w
    → (b : Bool) → ends_at_head t n ≡ b → TailOk true (not b) w
    → Reads (after_final_status t (rfc9292 true) is n) at (tail_bytes w) [] (placed_from (response_start is n) at w)
unfolding after_final_status after_final placed_from
reads-final t w hs is n at c s true e ok =
    reads-bind _ (reads-header true false w ok at _)
    (rw (e, header-stated t w hs n c false ok at e)
    (before _ (reads-tell _ _ _ _ (header-good t w hs n c false ok at _)) (reads-after true false w ok w.stated _ _ _)))
reads-final t w hs is n at c s false e ok =
    rw (s.missing e)
    (reads-bind _ (reads-bare true true w ok (s.missing e) at _)
    (rw e (before _ (reads-tell _ _ _ _ (may-state true w.headers _ _ ok.headers)) (reads-after true true w ok None _ _ _))))

-- a status that keeps its rule
reads-status : (n at : ℕ) (rest : List ℕ) → status_verdict n ≡ passed → Reads (integer cut_off at) at (int_bytes n) rest n
reads-status n at rest e = reads-integer cut_off at at n rest (omega (arith, status-rule n e))

status-good : (n p : ℕ) → status_verdict n ≡ passed → rule (status_verdict n) p n ≡ good n
status-good n p e = rw e

pub reads-response : (t : Told) (w : Meaning) (all : List Informational) (n : ℕ) → w.control ≡ response all n → Suited t n w
    → status_verdict n ≡ passed → is_informational n ≡ false → TailOk true (not (ends_at_head t n)) w → (hs : List Informational) (f at : ℕ) (is : List InformationalRead) → valid_heads hs ≡ true → length hs < f
    → length is + length hs ≤ informational_most → length (informational_bytes hs) ≤ binary_most
    → Reads (heads t (rfc9292 true) f is) at (informational_bytes hs ++ (int_bytes n ++ tail_bytes w)) []
    (placed_from (response_start (is ++ heads_at at hs) n) (at + length (informational_bytes hs ++ int_bytes n)) w)
unfolding heads after_informational_status after_informational informational_bytes heads_at
reads-response t w all n c s e late ok [] zero at is v h g k = absurd (omega arith)
reads-response t w all n c s e late ok (x ∷ hs) zero at is v h g k = absurd (omega arith)
reads-response t w all n c s e late ok [] (suc f) at is v h g k =
    reads_as (ap (λ (l : List InformationalRead). placed_from (response_start l n) (at + length (int_bytes n)) w) (sym (append-nil is)))
    (before _ (reads_here at _)
    (reads-bind _ (reads-status n at _ e)
    (before _ (reads-tell _ _ _ _ (status-good n at e)) (rw late (reads-final t w all is n _ c s (ends_at_head t n) refl ok)))))
reads-response t w all n c s e late ok (x ∷ hs) (suc f) at is v h g k =
    let o = head_ok x hs v in
    let i : List ℕ = int_bytes x.status in
    let d : List ℕ = section_bytes x.fields in
    let y : List ℕ = informational_bytes hs in
    let b = both-fit (i ++ d) y k in
    let l1 : length (i ++ d) ≡ length i + length d = length-append i d in
    let l2 : length ((i ++ d) ++ y) ≡ length (i ++ d) + length y = length-append (i ++ d) y in
    let l3 : length (((i ++ d) ++ y) ++ int_bytes n) ≡ length ((i ++ d) ++ y) + length (int_bytes n) = length-append ((i ++ d) ++ y) (int_bytes n) in
    let l4 : length (y ++ int_bytes n) ≡ length y + length (int_bytes n) = length-append y (int_bytes n) in
    let l5 : length (is ++ head_at at x ∷ []) ≡ length is + 1 = length-append is (head_at at x ∷ []) in
    let q : ℕ = at + length i + length d in
    let e1 : q ≡ at + length (i ++ d) = omega arith in
    let e2 : q + length (y ++ int_bytes n) ≡ at + length (((i ++ d) ++ y) ++ int_bytes n) = omega arith in
    let e3 : (is ++ head_at at x ∷ []) ++ heads_at q hs ≡ is ++ head_at at x ∷ heads_at (at + length (i ++ d)) hs =
    append_assoc is (head_at at x ∷ []) (heads_at q hs) ∙ ap (λ (z : ℕ). is ++ head_at at x ∷ heads_at z hs) e1 in
    let few : leb informational_most (length is) ≡ false = lt-leb informational_most (length is) (omega arith) in
    let u : nothing_stated (at + length i + length d) (binary_framing_of (section_at (at + length i) x.fields)) ≡ good (Sized 0) =
    none-stated x.fields (at + length i) _ o.0.fields in
    let l = fields-ok true x.fields (section-fields true x.fields o.0.fields) in
    let ih = reads-response t w all n c s e late ok hs f q (is ++ head_at at x ∷ []) o.1 (omega arith) (omega arith) b.1 in
    reads_as (ap₂ (λ (l : List InformationalRead) (z : ℕ). placed_from (response_start l n) z w) e3 e2)
    (rw (append_assoc (i ++ d) y (int_bytes n ++ tail_bytes w), append_assoc i d (y ++ (int_bytes n ++ tail_bytes w)))
    (before _ (reads_here at _)
    (reads-bind _ (reads-status x.status at _ o.0.status)
    (before _ (reads-tell _ _ _ _ (status-good x.status at o.0.status))
    (rw (o.0.early, few)
    (reads-bind _ (reads_section x.fields _ _ l (section-few true x.fields o.0.fields) (both-fit i d b.0).1) (before _ (reads-tell _ _ _ _ u) ih)))))))
