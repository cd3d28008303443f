-- The round trip of Binary HTTP, and what follows from it. Assumes nothing.
use mathlib.Core.Path.{◌≡◌, refl, sym, ap, ◌∙◌, subst}
use mathlib.Core.Bool.{Bool, true, false, not}
use mathlib.Core.List.{List, [], ◌++◌, append_assoc, append-nil}
use Prim.Native.Nat.{ℕ, suc, ◌+◌, ◌≤◌, ◌<◌}
use native.Mathlib.Omega.{arith}
use borrow.Author.Tests.{leb-true, lt-ltb}
use lib.Dec.{lit<}
use lib.ListN.{length, length-append}
use Rattle.octets.specs.Limits.{binary_most, informational_most}
use Rattle.octets.specs.Refusals.{cut_off}
use Rattle.numbers.specs.Integer.{int_len, int_bytes}
use Rattle.numbers.proofs.IntegerLaws.{int-length}
use Rattle.script.specs.Script.{accepted}
use Rattle.messages.specs.Message.{is_response, Message}
use Rattle.messages.specs.Names.{kept_trailers}
use Rattle.messages.specs.Meaning.{Control, request, response, control_means, Meaning, meaning}
use Rattle.messages.specs.Control.{ends_at_head}
use Rattle.messages.specs.Valid.{valid_control, valid_body, of_response, valid, suits_control, suits}
use Rattle.messages.specs.declared.Told.{Told}
use Rattle.messages.specs.Told.{is_edition, in_edition}
use Rattle.messages.proofs.Valid.{section-fields, section-few, response-ok, meaning-ok}
use Rattle.messages.proofs.Stating.{never-stated, stated-few, suited}
use Rattle.messages.proofs.ValidLines.{content-back}
use Rattle.binary.specs.Reader.{got, cursor, Reader, ◌>>=◌, integer}
use Rattle.binary.specs.Read.{form_of, after_indicator, message, read_sized, read_binary}
use Rattle.binary_writer.specs.Write.{counted, section_bytes, scheme_bytes, informational_bytes, control_bytes, binary_of, binary_fits}
use Rattle.binary_round_trip.specs.RoundTrip.{start_of, header_of, placed_from, placed_binary, RoundTrip, RoundTripOfMeanings, WrittenShortest}
use Rattle.binary_round_trip.proofs.Judgement.{Reads, reads-integer, reads-bind}
use Rattle.binary_round_trip.proofs.Lines.{both-fit}
use Rattle.binary_round_trip.proofs.Keeping.{fields_back, header-back, heads-back}
use Rattle.binary_round_trip.proofs.Messages.{TailOk, tail_bytes, request_bytes, reads-request-message, reads-response}

-- ---- the framing indicator

indicator-length : (v : ℕ) → v < 64 → length (int_bytes v) ≡ 1
unfolding int_len
indicator-length v h = int-length v ∙ rw (lt-ltb v 64 h)

reads-indicator : {A : Type 0} (v : ℕ) (k : ℕ → Reader A) {y rest : List ℕ} {b : A} → v < 64 → Reads (k v) 1 y rest b
    → Reads (integer cut_off 0 >>= k) 0 (int_bytes v ++ y) rest b
reads-indicator v k {y} {rest} {b} h g =
    let f = indicator-length v h in
    let e : 1 ≡ 0 + length (int_bytes v) = omega arith in
    reads-bind k (reads-integer cut_off 0 0 v _ (omega arith)) (subst (λ (z : ℕ). Reads (k v) z y rest b) e g)

-- ---- control data

-- the control data behind the framing indicator, grouped to the right
abbrev pub control_rest : Control → List ℕ
control_rest (request m s a p) = request_bytes m s a p
control_rest (response hs s) = informational_bytes hs ++ int_bytes s

abbrev pub indicator_of : Control → ℕ
indicator_of (request m s a p) = 0
indicator_of (response hs s) = 1

control-bytes : (c : Control) → control_bytes c ≡ int_bytes (indicator_of c) ++ control_rest c
unfolding control_bytes
control-bytes (request m s a p) =
    rw (
      append_assoc (int_bytes 0 ++ counted m ++ counted (scheme_bytes s)) (counted a) (counted p),
      append_assoc (int_bytes 0 ++ counted m) (counted (scheme_bytes s)) (counted a ++ counted p),
      append_assoc (int_bytes 0) (counted m) (counted (scheme_bytes s) ++ (counted a ++ counted p)),
    )
control-bytes (response hs s) = append_assoc (int_bytes 1) (informational_bytes hs) (int_bytes s)

indicator-small : (c : Control) → indicator_of c < 64
indicator-small (request m s a p) = lit< tt
indicator-small (response hs s) = lit< tt

control-length : (c : Control) → 1 + length (control_rest c) ≡ length (control_bytes c)
control-length c =
    let l : length (int_bytes (indicator_of c) ++ control_rest c) ≡ length (int_bytes (indicator_of c)) + length (control_rest c) = length-append (int_bytes (indicator_of c)) (control_rest c) in
    let f = indicator-length (indicator_of c) (indicator-small c) in
    rw (control-bytes c) (omega arith)

-- whether what is told of control data lets content follow
abbrev body_told : Told → Control → Bool
body_told t (request m s a p) = true
body_told t (response hs s) = not (ends_at_head t s)

body-told : (t : Told) (w : Meaning) (c : Control) → w.control ≡ c → suits t w ≡ true → valid_body (body_told t c) w.content w.trailers ≡ true
unfolding valid_body
body-told t w (request m s a p) e u = refl
body-told t w (response hs s) e u = (suited t w hs s e u).body

-- told t otherwise, in the edition that is written
control-back : (t : Told) (c : Control) (w : Meaning) → w.control ≡ c → suits (in_edition 0 t) w ≡ true → valid_control c ≡ true
    → TailOk (of_response c) (body_told (in_edition 0 t) c) w
    → length (control_rest c) ≤ binary_most
    → Reads (message (in_edition 0 t)) 0 (int_bytes (indicator_of c) ++ (control_rest c ++ tail_bytes w)) [] (placed_from (start_of c) (1 + length (control_rest c)) w)
unfolding message after_indicator form_of start_of
control-back t (request m s a p) w e u v ok h =
    reads-indicator 0 _ (lit< tt) (reads-request-message w m a p s 1 v ok (never-stated w.stated w (rw e) ok.stated))
control-back t (response hs s) w e u v ok h =
    let o = response-ok hs s v in
    let few = o.few in
    let b = both-fit (informational_bytes hs) (int_bytes s) h in
    rw (append_assoc (informational_bytes hs) (int_bytes s) (tail_bytes w))
    (reads-indicator 1 _ (lit< tt)
    (reads-response (in_edition 0 t) w hs s e (suited (in_edition 0 t) w hs s e u) o.status o.late ok hs (suc informational_most) 1 [] o.heads (omega arith) (omega arith) b.0))

-- ---- the message

pub binary-bytes : (m : Meaning) → binary_of m ≡ int_bytes (indicator_of m.control) ++ (control_rest m.control ++ tail_bytes m)
unfolding binary_of
binary-bytes m =
    let c : List ℕ = control_bytes m.control in
    let h : List ℕ = section_bytes (header_of m) in
    let b : List ℕ = counted m.content in
    let t : List ℕ = section_bytes m.trailers in
    append_assoc (c ++ h) b t ∙ append_assoc c h (b ++ t) ∙ ap (λ (z : List ℕ). z ++ (h ++ (b ++ t))) (control-bytes m.control)
    ∙ append_assoc (int_bytes (indicator_of m.control)) (control_rest m.control) (h ++ (b ++ t))

-- what is written within the size, part by part
pub record Fits (m : Meaning) : Type 0 where
  pub control : length (control_rest m.control) ≤ binary_most
  pub headers : length (section_bytes (header_of m)) ≤ binary_most
  pub content : length (counted m.content) ≤ binary_most
  pub trailers : length (section_bytes m.trailers) ≤ binary_most

pub fits-of : (m : Meaning) → length (binary_of m) ≤ binary_most → Fits m
fits-of m h =
    let g : length (int_bytes (indicator_of m.control) ++ (control_rest m.control ++ tail_bytes m)) ≤ binary_most = rw (binary-bytes m) at h in
    let f1 = both-fit (int_bytes (indicator_of m.control)) (control_rest m.control ++ tail_bytes m) g in
    let f2 = both-fit (control_rest m.control) (tail_bytes m) f1.1 in
    let f3 = both-fit (section_bytes (header_of m)) (counted m.content ++ section_bytes m.trailers) f2.1 in
    let f4 = both-fit (counted m.content) (section_bytes m.trailers) f3.1 in
    record { control = f2.0; headers = f3.0; content = f4.0; trailers = f4.1 }

message-back : (t : Told) (m : Meaning) → valid m ≡ true → suits (in_edition 0 t) m ≡ true → length (binary_of m) ≤ binary_most
    → Reads (message (in_edition 0 t)) 0 (binary_of m) [] (placed_binary m)
unfolding placed_binary
message-back t m v u h =
    let o = meaning-ok m v in
    let f = fits-of m h in
    let k : TailOk (of_response m.control) (body_told (in_edition 0 t) m.control) m = record {
      headers = o.headers;
      lines = stated-few m (section-few _ m.headers o.headers) o.stated;
      headers_fit = f.headers;
      content = o.content;
      trailers = o.trailers;
      trailers_fit = f.trailers;
      body_rule = body-told (in_edition 0 t) m m.control refl u;
      stated = o.stated;
    } in
    rw (binary-bytes m, ← control-length m.control) (control-back t m.control m refl u o.control k f.control)

-- ---- its meaning

control-means : (c : Control) → valid_control c ≡ true → (control_means (start_of c) ≡ c) × (is_response (start_of c) ≡ of_response c)
unfolding start_of
control-means (request m s a p) v = (refl, refl)
control-means (response hs s) v = (rw (heads-back hs 1 (response-ok hs s v).heads), refl)

pub meaning-back : (m : Meaning) → valid m ≡ true → meaning (placed_binary m) ≡ m
unfolding meaning placed_binary placed_from kept_trailers
meaning-back m v =
    let o = meaning-ok m v in
    let c = control-means m.control o.control in
    rw (
      c.0,
      c.1,
      header-back (of_response m.control) m.headers (section-fields _ m.headers o.headers) m.stated _,
      content-back _ m.content,
      fields_back false m.trailers _ (section-fields false m.trailers o.trailers) false,
    )

-- ---- the claims

-- what a meaning suits has nothing to do with the edition
suits-edition : (t : Told) (m : Meaning) → suits t m ≡ true → suits (in_edition 0 t) m ≡ true
unfolding suits ends_at_head
suits-edition t m u = on m.control u
  where
    on : (c : Control) → suits_control t c m ≡ true → suits_control (in_edition 0 t) c m ≡ true
    on (request n s a p) h = h
    on (response hs s) h = h

pub round_trip : RoundTrip
unfolding read_binary read_sized binary_fits is_edition
round_trip = λ t m v u f.
    let h = leb-true (length (binary_of m)) binary_most f in
    let r : message (in_edition 0 t) (cursor 0 0) (binary_of m) ≡ got (placed_binary m) (cursor (0 + length (binary_of m)) 0) [] =
    rw append-nil at (message-back t m v (suits-edition t m u) h).go in
    let e : 0 + length (binary_of m) ≡ length (binary_of m) = omega arith in
    (rw (f, r, e), meaning-back m v)

pub round-trip-of-meanings : RoundTripOfMeanings
round-trip-of-meanings = λ t m v u f. let r = round_trip t m v u f in rw (r.0, r.1)

accepted-same : {A : Type 0} {n k : ℕ} {x y : A} → accepted n x ≡ accepted k y → x ≡ y
accepted-same e = cc

-- nothing that is written is long
pub written-shortest : WrittenShortest
unfolding placed_binary placed_from
written-shortest t m v u f n x e =
    let z : placed_binary m ≡ x = accepted-same (sym (round_trip t m v u f).0 ∙ e) in
    subst (λ (y : Message). y.long ≡ 0) z refl
