-- What the two readers of HTTP/1.1 refuse with, and where.
use Rattle.std.proofs.Common.{None, Option, Some, Err, Ok, Result}
use Prim.Native.Nat.{ℕ, ◌-◌, zero, suc, ◌+◌, ◌≤◌}
use mathlib.Core.Path.{◌≡◌, refl}
use mathlib.Core.Bool.{Bool, true, false, cond}
use mathlib.Core.List.{List, [], ◌∷◌, ◌++◌}
use native.Mathlib.Omega.{arith}
use lib.Dec.{eqb, leb, ltb}
use lib.ListN.{length, take, drop, length-append}
use Rattle.octets.specs.Limits.{head_most, trailer_most, chunk_line_most, lines_most, chunks_most, content_most, informational_most, path_most}
use Rattle.octets.specs.Refusals.{bad_syntax, bad_version, not_supported, too_large, bad_host, other_scheme}
use Rattle.octets.specs.Text.{span_len, is_other, same_text, is_empty, all}
use Rattle.octets.proofs.Kit.{either}
use Rattle.script.specs.Script.{refused, some_octets, Script, run}
use Rattle.script.specs.Do.{Piece, piece, good, wrong}
use Rattle.script.proofs.Refusals.{Judges, Stops, CutRefuses, stops-done, stops-stop, stops-word, stops-if, stops-bind, stops_then, stops-judged, stops-all}
use Rattle.messages.specs.declared.Told.{Told}
use Rattle.messages.specs.Message.{FieldRead, InformationalRead, prefix_octets}
use Rattle.messages.specs.Control.{method_verdict, path_verdict, status_verdict, is_informational, is_options, is_host}
use Rattle.messages.specs.Names.{are_trailers}
use Rattle.messages.specs.Rules.{framing_of, request_body, nothing_stated, response_body, target_authority}
use Rattle.messages.specs.Valid.{is_scheme}
use Rattle.messages.specs.declared.Body.{Body}
use Rattle.messages.specs.declared.Body.TheVariants.{Sized, InChunks, UntilClosed}
use Rattle.http1_lines.specs.Lines.{version, request_parts, request_version, request_target, request_lens, on_request, request_of, status_at, status_version, is_status_shape, status_lens, on_status, status_of, on_target}
use Rattle.http1_lines.specs.Lines.{field_lens, on_field, field_of, chunk_lens, on_chunk, chunk_of}
use Rattle.http1_lines.specs.Read.{line_within, less, Lines, field_lines, section, trailer_section, chunk_data, chunks_from, content, after_head, request, read_request, ResponseCall, response_call, after_final, heads, heads_then, read_response}
use Rattle.http1_lines.specs.declared.RequestLine.{RequestLine}
use Rattle.http1_lines.specs.declared.FieldLine.{FieldLine}
use Rattle.sound.specs.Placed.{Each}
use Rattle.sound.specs.Refusal.{is_one_of, Refusal}
use Rattle.sound.proofs.Each.{each_snoc}
use Rattle.sound.proofs.Refusals.{Among, among, common_numbers, Common, CommonVerdict, VerdictOf, status_numbers, method-verdict, path-verdict, status-verdict, NamedIn, framing-in, Refuses, refusal, target-judged, nothing-judged, request-judged, response-judged}
use Rattle.http1_sound.specs.Read.{request_numbers, response_numbers, RequestsRefused, ResponsesRefused}
use Rattle.http1_lines.specs.Target.{absolute_target, target_of, absolute_path, plain_target, scheme_len, is_before_path, scheme_number, prefix_of, path_alone}
use Rattle.octets.specs.Class.{has_class, path}
use Rattle.octets.specs.declared.Refusal.{Refusal as Reason}
use Rattle.octets.specs.Refusals.{refusal_number}
use Rattle.messages.specs.Control.{Verdict, behind}
use Rattle.http1_lines.specs.declared.Target.{Target}

-- the numbers that both readers have
request-wide : Among common_numbers request_numbers
request-wide = among common_numbers request_numbers (refl, (refl, (refl, (refl, tt))))

response-wide : Among common_numbers response_numbers
response-wide = among common_numbers response_numbers (refl, (refl, (refl, (refl, tt))))

-- those of a start line: of a request's, and of a response's
abbrev request_line_numbers : List ℕ
request_line_numbers = bad_version ∷ bad_host ∷ other_scheme ∷ common_numbers

abbrev status_line_numbers : List ℕ
status_line_numbers = bad_syntax ∷ bad_version ∷ status_numbers

-- ---- lines

abbrev OfRequest : Result RequestLine Reason → Type 0
OfRequest (Ok q) = Unit {0}
OfRequest (Err r) = is_one_of request_line_numbers (refusal_number r) ≡ true

common-line : Among common_numbers request_line_numbers
common-line = among common_numbers request_line_numbers (refl, (refl, (refl, (refl, tt))))

syntax-number : Common bad_syntax
syntax-number = refl

abbrev OfTarget : Result Target Reason → Type 0
OfTarget (Ok x) = Unit {0}
OfTarget (Err r) = is_one_of request_line_numbers (refusal_number r) ≡ true

absolute-path : (scheme : ℕ) (options : Bool) (w : List ℕ) (k e : ℕ) → OfTarget (absolute_path scheme options w k e)
unfolding absolute_path
absolute-path scheme options w k e =
    either OfTarget (leb (length (prefix_octets (prefix_of options (drop e w))) + (length w - e)) path_most) _ _
    (λ c. either OfTarget (eqb (scheme_number k) scheme) _ _ (λ d. tt) (λ d. refl))
    (λ c. refl)

absolute-target : (scheme : ℕ) (options : Bool) (w : List ℕ) (k : ℕ) → OfTarget (absolute_target scheme options w k)
unfolding absolute_target
absolute-target scheme options w k =
    either OfTarget (all (has_class path) w) _ _
    (λ a.
    either OfTarget (is_host (take (span_len is_before_path (drop k w)) (drop k w))) _ _
    (λ b. absolute-path scheme options w k (k + span_len is_before_path (drop k w)))
    (λ b. refl))
    (λ a. refl)

any_target : (scheme : ℕ) (options : Bool) (w : List ℕ) → OfTarget (target_of scheme options w)
unfolding target_of plain_target
any_target scheme options w =
    either OfTarget (eqb (scheme_len w) 0) _ _
    (λ a.
    alone (path_verdict options w) (path-verdict options w) (path_alone (length w)))
    (λ a. absolute-target scheme options w (scheme_len w))
  where
    alone : (v : Verdict) → CommonVerdict v → (x : Target) → OfTarget (behind v (Ok x))
    alone (Ok u) h x = tt
    alone (Err r) h x = common-line.has (refusal_number r) h

on-target : (m : ℕ) (x : Result Target Reason) → OfTarget x → OfRequest (on_target m x)
on-target m (Ok x) h = tt
on-target m (Err n) h = h

request-parts : (scheme : ℕ) (w : List ℕ) (m p : ℕ) → OfRequest (request_parts scheme w m p)
unfolding request_parts
request-parts scheme w m p =
    on (method_verdict (take m w)) (method-verdict (take m w)) _
    (on-target m (target_of scheme (is_options (take m w)) (take p (drop (m + 1) w))) (any_target scheme (is_options (take m w)) (take p (drop (m + 1) w))))
  where
    on : (v : Verdict) → CommonVerdict v → (x : Result RequestLine Reason) → OfRequest x → OfRequest (behind v x)
    on (Ok u) h x g = g
    on (Err r) h x g = common-line.has (refusal_number r) h

request-version : (scheme : ℕ) (w : List ℕ) (m e : ℕ) → OfRequest (request_version scheme w m e)
unfolding request_version
request-version scheme w m e =
    either OfRequest (eqb (e + 1 + span_len (is_other 32) (drop (e + 1) w)) (length w)) _ _
    (λ a. either OfRequest (same_text (drop (e + 1) w) version) _ _ (λ b. request-parts scheme w m _) (λ b. refl))
    (λ a. refl)

request-lens : (scheme : ℕ) (w : List ℕ) → OfRequest (request_lens scheme w)
unfolding request_lens request_target
request-lens scheme w =
    either OfRequest (leb (length w) (span_len (is_other 32) w)) _ _ (λ a. refl)
    (λ a. either OfRequest (leb (length w) _) _ _ (λ b. refl) (λ b. request-version scheme w _ _))

abbrev OfStatus : Result ℕ Reason → Type 0
OfStatus (Ok n) = Unit {0}
OfStatus (Err r) = is_one_of status_line_numbers (refusal_number r) ≡ true

status-in-line : Among status_numbers status_line_numbers
status-in-line = among status_numbers status_line_numbers (refl, (refl, tt))

status-lens : (w : List ℕ) → OfStatus (status_lens w)
unfolding status_lens status_version
status-lens w =
    let v : ℕ = span_len (is_other 32) w in
    either OfStatus (is_status_shape w v) _ _
    (λ a.
    either OfStatus (same_text (take v w) version) _ _
    (λ b. on (status_verdict (status_at w (v + 1))) (status-verdict (status_at w (v + 1))) (status_at w (v + 1)))
    (λ b. refl))
    (λ a. refl)
  where
    on : (v : Verdict) → VerdictOf status_numbers v → (n : ℕ) → OfStatus (behind v (Ok n))
    on (Ok u) h n = tt
    on (Err r) h n = status-in-line.has (refusal_number r) h

module _ (s : List ℕ) (l : Piece) (i : l.place ≤ length s) where
  request-line : (scheme : ℕ) → Refuses request_numbers s (request_of scheme l)
  unfolding request_of
  request-line scheme = on (request_lens scheme l.text) (request-lens scheme l.text)
    where
      on : (x : Result RequestLine Reason) → OfRequest x → Refuses request_numbers s (on_request l x)
      on (Ok q) h = tt
      on (Err r) h = record { of_form = (among request_line_numbers request_numbers (refl, (refl, (refl, (refl, (refl, (refl, (refl, tt)))))))).has (refusal_number r) h; inside = i }

  status-line : Refuses response_numbers s (status_of l)
  unfolding status_of
  status-line = on (status_lens l.text) (status-lens l.text)
    where
      on : (x : Result ℕ Reason) → OfStatus x → Refuses response_numbers s (on_status l x)
      on (Ok n) h = tt
      on (Err r) h = record { of_form = (among status_line_numbers response_numbers (refl, (refl, (refl, (refl, tt))))).has (refusal_number r) h; inside = i }

-- ---- what both readers read alike, whatever the numbers

module _ {ns s : List ℕ} (wide : Among common_numbers ns) where
  -- a number that both have, at a place of the input
  at_place : {n p : ℕ} → Common n → p ≤ length s → Refusal ns s n p
  at_place h i = refusal wide h i

  -- the size passed, at a place of the input
  too-large : {p : ℕ} → p ≤ length s → Refusal ns s too_large p
  too-large i = at_place refl i

module _ {ns : List ℕ} (wide : Among common_numbers ns) (s : List ℕ) (l : Piece) (i : l.place ≤ length s) where
  field-line : Judges (Refusal ns s) (NamedIn (length s)) (field_of l)
  unfolding field_of
  field-line = on (field_lens l.text)
    where
      on : (x : Option FieldLine) → Judges (Refusal ns s) (NamedIn (length s)) (on_field l x)
      on (Some f) = i
      on None = at_place wide syntax-number i

  chunk-line : Refuses ns s (chunk_of l)
  unfolding chunk_of
  chunk-line = on (chunk_lens l.text)
    where
      on : (x : Option ℕ) → Refuses ns s (on_chunk l x)
      on (Some n) = tt
      on None = at_place wide syntax-number i

  chunk-data : (n : ℕ) → l.place + n ≤ length s → Refuses ns s (chunk_data n l)
  unfolding chunk_data
  chunk-data n j =
      either (Refuses ns s) (same_text (drop n l.text) (13 ∷ 10 ∷ [])) (good (piece l.place (take n l.text))) (wrong bad_syntax (l.place + n))
      (λ a. tt) (λ a. at_place wide syntax-number j)

-- ---- sections

-- a script refuses the input s with nothing but these numbers, at places of the input, and accepts nothing but what P holds of
abbrev Refusing : {A : Type 0} → List ℕ → List ℕ → (ℕ → A → Type 0) → ℕ → Script A → Type 0
Refusing ns s P at sc = Stops s (Refusal ns s) P at sc

-- a section ends in the input, and its lines start there
record SectionIn (s : List ℕ) (h : Lines) : Type 0 where
  end : h.end ≤ length s
  lines : Each (NamedIn (length s)) h.lines

module _ {ns s : List ℕ} (wide : Among common_numbers ns) where
  -- a line within an allowance
  line-refuses : {at : ℕ} (left : ℕ) → at ≤ length s → CutRefuses (Refusal ns s) at (line_within left)
  line-refuses left i = (at_place wide syntax-number i, too-large wide i)

  stops-lines : (f left : ℕ) {at : ℕ} (fs : List FieldRead) → Each (NamedIn (length s)) fs → Refusing ns s (λ n h. SectionIn s h) at (field_lines f left fs)
  unfolding field_lines
  stops-lines zero left fs h = stops-stop (too-large wide (omega arith))
  stops-lines (suc f) left {at} fs h =
      stops-bind _ (stops-word (line_within left) (line-refuses left) λ w g i.
      let k = length-append w (13 ∷ 10 ∷ []) in
      let j : at ≤ length s = omega arith in
      stops-if (is_empty w) (λ a. stops-done (record { end = omega arith; lines = h })) λ a.
      stops-if (leb lines_most (length fs)) (λ b. stops-stop (too-large wide j)) λ b.
      stops-judged (NamedIn (length s)) (field_of (piece at w)) _ (field-line wide s (piece at w) j) λ x q.
      stops-lines f (less left (piece at w)) (fs ++ x ∷ []) (each_snoc (NamedIn (length s)) fs x h q))

  stops-section : {at : ℕ} (left : ℕ) → Refusing ns s (λ n h. SectionIn s h) at (section left)
  unfolding section
  stops-section left = stops-lines (suc lines_most) left [] tt

  -- ---- content

  stops-trailers : {at : ℕ} (cs : List Piece) → Refusing ns s (λ n c. Unit {0}) at (trailer_section cs)
  unfolding trailer_section
  stops-trailers cs =
      stops_then _ (stops-section trailer_most) λ n h g.
      stops-if (are_trailers h.lines) (λ a. stops-done tt) (λ a. stops-stop (at_place wide refl g.end))

  stops-chunks : (f : ℕ) {at : ℕ} (cs : List Piece) (total : ℕ) → Refusing ns s (λ n c. Unit {0}) at (chunks_from f cs total)
  unfolding chunks_from
  stops-chunks zero cs total = stops-stop (too-large wide (omega arith))
  stops-chunks (suc f) {at} cs total =
      stops-bind _ (stops-word (line_within chunk_line_most) (line-refuses chunk_line_most) λ w g i.
      let j : at ≤ length s = omega arith in
      stops-judged (λ x. Unit {0}) (chunk_of (piece at w)) _ (chunk-line wide s (piece at w) j) λ n q.
      stops-if (eqb n 0) (λ a. stops-trailers cs) λ a.
      stops-if (leb chunks_most (length cs)) (λ b. stops-stop (too-large wide j)) λ b.
      stops-if (ltb content_most (total + n)) (λ c. stops-stop (too-large wide j)) λ c.
      stops-bind _ (stops-word (some_octets (n + 2)) (λ z. tt) λ v l k.
      stops-judged (λ x. Unit {0}) (chunk_data n _) _ (chunk-data wide s _ (omega arith) n (omega (arith, l))) λ d r.
      stops-chunks f (cs ++ d ∷ []) (total + n)))

  stops-content : {at : ℕ} (b : Body) → Refusing ns s (λ n c. Unit {0}) at (content b)
  unfolding content
  stops-content (Sized n) = stops-bind _ (stops-word (some_octets n) (λ z. tt) λ w g i. stops-done tt)
  stops-content InChunks = stops-chunks (suc chunks_most) [] 0
  stops-content UntilClosed = stops-bind _ (stops-word (some_octets (content_most + 1)) (λ z. tt) λ w g i. stops-stop (too-large wide (omega arith)))

-- ---- requests

module _ {s : List ℕ} where
  stops-request : {at : ℕ} (t : Told) → Refusing request_numbers s (λ n m. Unit {0}) at (request t)
  unfolding request after_head
  stops-request {at} t =
      stops-bind _ (stops-word (line_within head_most) (line-refuses request-wide head_most) λ w g i.
      stops-judged (λ x. Unit {0}) (request_of t.scheme (piece at w)) _ (request-line s (piece at w) (omega arith) t.scheme) λ q a.
      stops_then _ (stops-section request-wide (less head_most (piece at w))) λ n h k.
      stops-judged (λ x. Unit {0}) (target_authority h.end q.authority h.lines) _ (target-judged request_numbers s request-wide h.end k.end refl q.authority h.lines) λ u b.
      stops-judged (λ x. Unit {0}) (request_body h.end (framing_of h.lines)) _
      (request-judged request_numbers s request-wide h.end k.end (framing_of h.lines) (framing-in (length s) h.lines k.lines)) λ v c.
      stops_then _ (stops-content request-wide v) λ j d z.
      stops-done tt)

  -- ---- responses

  stops-final : {at : ℕ} (q : ResponseCall) (hs : List InformationalRead) (n : ℕ) (h : Lines) → SectionIn s h → Refusing response_numbers s (λ n m. Unit {0}) at (after_final q hs n h)
  unfolding after_final
  stops-final q hs n h k =
      stops-judged (λ x. Unit {0}) (response_body q.told q.ending n h.end (framing_of h.lines)) _
      (response-judged response_numbers s response-wide h.end k.end q.told q.ending n (framing_of h.lines) (framing-in (length s) h.lines k.lines)) λ v c.
      stops_then _ (stops-content response-wide v) λ j d z.
      stops-done tt

  stops-heads : (q : ResponseCall) (f : ℕ) {at : ℕ} (hs : List InformationalRead) (left : ℕ) → Refusing response_numbers s (λ n m. Unit {0}) at (heads q f hs left)
  unfolding heads_then
  stops-heads q zero hs left = stops-stop (too-large response-wide (omega arith))
  stops-heads q (suc f) {at} hs left =
      stops-bind _ (stops-word (line_within left) (line-refuses response-wide left) λ w g i.
      let j : at ≤ length s = omega arith in
      stops-judged (λ x. Unit {0}) (status_of (piece at w)) _ (status-line s (piece at w) j) λ n a.
      stops-if (is_informational n)
      (λ b.
      stops-if (leb informational_most (length hs)) (λ c. stops-stop (too-large response-wide j)) λ c.
      stops_then _ (stops-section response-wide (less left (piece at w))) λ m h k.
      stops-judged (λ x. Unit {0}) (nothing_stated h.end (framing_of h.lines)) _ (nothing-judged response_numbers s response-wide h.end k.end (framing_of h.lines)) λ u d.
      stops-heads q f _ _)
      (λ b. stops_then _ (stops-section response-wide (less left (piece at w))) λ m h k. stops-final q hs n h k))

-- ---- both readers

pub request-refused : RequestsRefused
unfolding read_request
request-refused t s n p e = on (is_scheme t.scheme) e
  where
    on : (b : Bool) → cond b (run (request t) 0 s) (refused not_supported 0) ≡ refused n p → Refusal request_numbers s n p
    on true g = stops-all (λ i m. Unit {0}) (request t) n p (stops-request t) g
    on false g =
        let z : not_supported ≡ n = cc in
        let y : 0 ≡ p = cc in
        record { of_form = rw (← z) refl; inside = omega arith }

pub response-refused : ResponsesRefused
unfolding read_response
response-refused t s n p e =
    let q : ResponseCall = response_call t (length s) in
    stops-all (λ i m. Unit {0}) (heads q (suc informational_most) [] head_most) n p (stops-heads q (suc informational_most) [] head_most) e
