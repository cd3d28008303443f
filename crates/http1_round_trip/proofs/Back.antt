-- The round trip of HTTP/1.1, and what follows from it. Assumes nothing.
use mathlib.Core.Path.{◌≡◌, refl, sym, ap, ◌∙◌}
use mathlib.Core.Bool.{Bool, true, false, cond, ◌&&◌}
use mathlib.Core.List.{List, [], ◌∷◌, ◌++◌, append_assoc}
use Prim.Native.Nat.{ℕ, suc, ◌+◌, ◌≤◌}
use native.Mathlib.Omega.{arith}
use borrow.Author.Tests.{leb-true, eqb-true}
use lib.Dec.{leb, lit≤}
use lib.ListN.{length, drop}
use lib.Seq.{drop_at}
use Rattle.std.proofs.Common.{Option, Some, None}
use Rattle.octets.specs.Limits.{head_most, trailer_most, lines_most, informational_most}
use Rattle.octets.proofs.Kit.{and_split}
use Rattle.script.specs.Script.{Answer, accepted, refused, more, means}
use Rattle.script.specs.Do.{piece, Reads}
use Rattle.script.proofs.Do.{reads}
use Rattle.messages.specs.Told.{answering, closing, ending_of, in_edition}
use Rattle.messages.specs.declared.Told.{Told}
use Rattle.messages.specs.Message.{request_start, Message, whole_path}
use Rattle.messages.specs.Control.{ends_at_head}
use Rattle.messages.specs.Names.{kept_trailers}
use Rattle.messages.specs.Meaning.{Field, Control, request, response, Meaning, meaning}
use Rattle.messages.specs.Valid.{is_scheme, valid_control, of_response, no_fields, valid, suits}
use Rattle.messages.proofs.Valid.{section-fields, request-ok, response-ok, meaning-ok}
use Rattle.messages.proofs.ValidLines.{content-back}
use Rattle.messages.proofs.Stating.{never-stated, suited}
use Rattle.http1_lines.specs.Read as http1
use Rattle.http1_lines.specs.Read.{read_request, read_response}
use Rattle.http1_writer.specs.Write.{section_text, request_line, status_line, informational_text, unmeasured, line_for, length_line, head_lines, head_text, body_text, http1_of, is_silent}
use Rattle.http1_writer.specs.Write.{http1_fits, on_connection, to_http1}
use Rattle.http1_round_trip.specs.RoundTrip.{is_request_of, RequestOf, ResponseOf, ReadsBack, RequestsBack, ResponsesBack}
use Rattle.http1_round_trip.specs.RoundTrip.{RequestMeanings, ResponseMeanings, RequestsApart, ResponsesApart, RequestsHeadUnused, ClosedUnused, EditionUnused}
use Rattle.http1_round_trip.proofs.Placed.{placed_from, placed_at}
use Rattle.http1_round_trip.proofs.Sections.{reads-from, reads_as}
use Rattle.http1_round_trip.proofs.Keeping.{fields_back, heads-back, request_lines, request-kept, response-kept}
use Rattle.http1_round_trip.proofs.Body.{TrailersOk}
use Rattle.http1_round_trip.proofs.Messages.{reads-request, reads-response}

-- ---- what is within the sizes

trailers-fit : (ts : List Field) → cond (no_fields ts) true (leb (length (section_text ts)) trailer_most) ≡ true → length (section_text ts) ≤ trailer_most
unfolding section_text
trailers-fit [] e = lit≤ tt
trailers-fit (x ∷ ts) e = leb-true (length (section_text (x ∷ ts))) trailer_most e

record Fit (t : Told) (m : Meaning) : Type 0 where
  head : length (head_text t m) ≤ head_most
  lines : length (head_lines t m) ≤ lines_most
  trailers : length (section_text m.trailers) ≤ trailer_most

fit_of : (t : Told) (m : Meaning) → http1_fits t m ≡ true → Fit t m
unfolding http1_fits
fit_of t m e =
    let a : Bool = leb (length (head_text t m)) head_most in
    let b : Bool = leb (length (head_lines t m)) lines_most in
    let p = and_split (a && b) _ e in
    let q = and_split a b p.0 in
    record { head = leb-true _ head_most q.0; lines = leb-true _ lines_most q.1; trailers = trailers-fit m.trailers p.1 }

trailers-ok : (t : Told) (m : Meaning) → valid m ≡ true → http1_fits t m ≡ true → TrailersOk m.trailers
trailers-ok t m v f = record { valid = (meaning-ok m v).trailers; fit = (fit_of t m f).trailers }

-- ---- messages

abbrev made : Control → List Field → List ℕ → List Field → Option ℕ → Meaning
made c fs b ts x = record { control = c; headers = fs; content = b; trailers = ts; stated = x }

other : {A : Type 1} → false ≡ true → A
other e = let z : ◌≡◌ {A = ℕ} 0 1 = cc in absurd (omega arith)

unstated-request : (m : List ℕ) (s : ℕ) (a p : List ℕ) (fs : List Field) (b : List ℕ) (ts : List Field) (n : ℕ)
    → valid (made (request m s a p) fs b ts (Some n)) ≡ true → ⊥
unstated-request m s a p fs b ts n v =
    let w : Meaning = made (request m s a p) fs b ts (Some n) in
    let e : Some n ≡ None = never-stated (Some n) w refl (meaning-ok w v).stated in
    let z : ◌≡◌ {A = ℕ} 0 1 = cc in
    omega arith

request-back : (t : Told) (c : Control) (fs : List Field) (b : List ℕ) (ts : List Field) (x : Option ℕ)
    → valid (made c fs b ts x) ≡ true → http1_fits t (made c fs b ts x) ≡ true → is_request_of t c ≡ true
    → Reads (http1.request t) 0 (http1_of t (made c fs b ts x)) (placed_at t 0 (made c fs b ts x))
unfolding http1_of head_text head_lines length_line
request-back t (response hs s) fs b ts x v f e = other e
request-back t (request m s a p) fs b ts (Some n) v f e = absurd (unstated-request m s a p fs b ts n v)
request-back t (request m s a p) fs b ts None v f e =
    let w : Meaning = made (request m s a p) fs b ts None in
    let ok = meaning-ok w v in
    let fit = fit_of t w f in
    let o = request-ok m a p s ok.control in
    let l : List ℕ = request_line m p in
    let h : List Field = request_lines t m a fs b ts in
    let x : s ≡ t.scheme = eqb-true s t.scheme e in
    reads_as (ap (λ (z : ℕ). placed_from (request_start (piece 0 m) z (piece (0 + length l + 6) a) (whole_path (piece (0 + (length m + 1)) p))) (0 + length l) h b ts None) (sym x))
    (reads-from (append_assoc l (section_text h) (body_text b ts))
    (reads-request t m a p fs b ts 0 o.method o.named o.path (section-fields false fs ok.headers) ok.content (trailers-ok t w v f) fit.lines fit.head))

response-back : (t : Told) (y : Option ℕ) (c : Control) (fs : List Field) (b : List ℕ) (ts : List Field) (x : Option ℕ)
    → valid (made c fs b ts x) ≡ true → http1_fits t (made c fs b ts x) ≡ true → of_response c ≡ true → suits t (made c fs b ts x) ≡ true
    → Reads (http1.heads (record { told = t; ending = y }) (suc informational_most) [] head_most) 0 (http1_of t (made c fs b ts x)) (placed_at t 0 (made c fs b ts x))
unfolding http1_of head_text head_lines length_line
response-back t y (request m s a p) fs b ts x v f e u = other e
response-back t y (response hs s) fs b ts x v f e u =
    let w : Meaning = made (response hs s) fs b ts x in
    let ok = meaning-ok w v in
    let fit = fit_of t w f in
    let o = response-ok hs s ok.control in
    let few = o.few in
    let i : List ℕ = informational_text hs in
    let l : List ℕ = status_line s in
    let h : List ℕ = section_text (head_lines t w) in
    let e1 : ((i ++ l) ++ h) ++ body_text b ts ≡ i ++ (l ++ (h ++ body_text b ts)) = append_assoc (i ++ l) h (body_text b ts) ∙ append_assoc i l (h ++ body_text b ts) in
    let k : length (i ++ (l ++ h)) ≤ head_most = rw (append_assoc i l h) at fit.head in
    reads-from e1
    (reads-response (record { told = t; ending = y }) s w hs refl o.status o.late (section-fields true fs ok.headers) ok.content (trailers-ok t w v f) ok.stated
    (suited t w hs s refl u) fit.lines
    hs (suc informational_most) head_most 0 [] o.heads (omega arith) (omega arith) k)

-- ---- their meanings

meaning-of : (t : Told) (c : Control) (fs : List Field) (b : List ℕ) (ts : List Field) (x : Option ℕ) → valid (made c fs b ts x) ≡ true
    → meaning (placed_at t 0 (made c fs b ts x)) ≡ made c fs b ts x
unfolding meaning kept_trailers head_lines length_line
meaning-of t (request m s a p) fs b ts (Some n) v = absurd (unstated-request m s a p fs b ts n v)
meaning-of t (request m s a p) fs b ts None v =
    let ok = meaning-ok (made (request m s a p) fs b ts None) v in
    rw (
      request-kept t m a fs b ts (0 + length (request_line m p)) (section-fields false fs ok.headers),
      content-back _ b,
      fields_back false false ts _ (section-fields false ts ok.trailers),
    )
meaning-of t (response hs s) fs b ts x v =
    let w : Meaning = made (response hs s) fs b ts x in
    let ok = meaning-ok w v in
    rw (
      heads-back hs 0 (response-ok hs s ok.control).heads,
      response-kept t s w (0 + length (informational_text hs ++ status_line s)) (section-fields true fs ok.headers),
      content-back _ b,
      fields_back false false ts _ (section-fields false ts ok.trailers),
    )

pub meaning-back : (t : Told) (m : Meaning) → valid m ≡ true → meaning (placed_at t 0 m) ≡ m
meaning-back t m v = meaning-of t m.control m.headers m.content m.trailers m.stated v

-- ---- the claims

from_start : (n : ℕ) (x : Message) → accepted (0 + n) x ≡ accepted n x
from_start n x = ap (λ (z : ℕ). accepted z x) (omega arith)

told-scheme : (t : Told) (c : Control) → valid_control c ≡ true → is_request_of t c ≡ true → is_scheme t.scheme ≡ true
told-scheme t (response hs s) v e = cc
told-scheme t (request m s a p) v e = rw (eqb-true s t.scheme e) at (request-ok m a p s v).scheme

-- the message that is taken, with its places
pub request-taken : (t : Told) (m : Meaning) → RequestOf t m → (rest : List ℕ)
    → read_request t (http1_of t m ++ rest) ≡ accepted (length (http1_of t m)) (placed_at t 0 m)
unfolding read_request
request-taken t m o rest =
    rw (told-scheme t m.control (meaning-ok m o.0).control o.2)
    (reads (request-back t m.control m.headers m.content m.trailers m.stated o.0 o.1 o.2) rest
    ∙ from_start (length (http1_of t m)) (placed_at t 0 m))

pub response-taken : (t : Told) (m : Meaning) → ResponseOf t m → (rest : List ℕ)
    → read_response t (http1_of t m ++ rest) ≡ accepted (length (http1_of t m)) (placed_at t 0 m)
unfolding read_response
response-taken t m o rest =
    reads (response-back t (ending_of t (length (http1_of t m ++ rest))) m.control m.headers m.content m.trailers m.stated o.0 o.1 o.2 o.3) rest
    ∙ from_start (length (http1_of t m)) (placed_at t 0 m)

pub requests-back : RequestsBack
requests-back = λ t m o. record { message = placed_at t 0 m; taken = request-taken t m o; same = meaning-back t m o.0 }

pub responses-back : ResponsesBack
responses-back = λ t m o. record { message = placed_at t 0 m; taken = response-taken t m o; same = meaning-back t m o.0 }

-- ---- what follows

means-back : {t : Told} {read : Told → List ℕ → Answer Message} {m : Meaning} → ReadsBack t read m → (rest : List ℕ)
    → means meaning (read t (http1_of t m ++ rest)) ≡ accepted (length (http1_of t m)) m
means-back b rest = rw (b.taken rest, b.same)

pub request-meanings : RequestMeanings
request-meanings = λ t m o rest. means-back (requests-back t m o) rest

pub response-meanings : ResponseMeanings
response-meanings = λ t m o rest. means-back (responses-back t m o) rest

abbrev value_of : Meaning → Answer Meaning → Meaning
value_of m (accepted n a) = a
value_of m (refused k p) = m
value_of m more = m

apart : {t : Told} {read : Told → List ℕ → Answer Message} {l m : Meaning} → ReadsBack t read l → ReadsBack t read m
    → (r q : List ℕ) → http1_of t l ++ r ≡ http1_of t m ++ q → (l ≡ m) × (r ≡ q)
apart {t} {read} {l} {m} a b r q e =
    let i : l ≡ m = ap (value_of l) (sym (means-back a r) ∙ ap (λ (s : List ℕ). means meaning (read t s)) e ∙ means-back b q) in
    let n : ℕ = length (http1_of t m) in
    (i, sym (drop_at (http1_of t l) r n (ap (λ (z : Meaning). length (http1_of t z)) i)) ∙ ap (drop n) e ∙ drop_at (http1_of t m) q n refl)

pub requests-apart : RequestsApart
requests-apart = λ t l m ol om r q e. apart (requests-back t l ol) (requests-back t m om) r q e

pub responses-apart : ResponsesApart
responses-apart = λ t l m ol om r q e. apart (responses-back t l ol) (responses-back t m om) r q e

-- ---- what a writer does not look at

-- told t or u, where they have one scheme, and the meaning needs a length line under both or under neither
module _ (t u : Told) (m : Meaning) (e : unmeasured u m.control m.content ≡ unmeasured t m.control m.content) where
  line-alike : length_line u m ≡ length_line t m
  unfolding length_line
  line-alike = ap (λ (x : Bool). line_for (no_fields m.trailers) x m.stated (length m.content)) e

  text-alike : http1_of u m ≡ http1_of t m
  unfolding http1_of head_text head_lines
  text-alike = rw line-alike

  fits-alike : http1_fits u m ≡ http1_fits t m
  unfolding http1_fits head_text head_lines
  fits-alike = rw line-alike

  written-alike : u.scheme ≡ t.scheme → to_http1 u m ≡ to_http1 t m
  unfolding to_http1
  written-alike q = rw (text-alike, fits-alike, on m.control)
    where
      on : (c : Control) → on_connection u c ≡ on_connection t c
      on (request k s a p) = rw q
      on (response hs s) = refl

-- that a message answers a HEAD, of a request
module _ (t : Told) (h : ℕ) (m : Meaning) (e : of_response m.control ≡ false) where
  head-alike : unmeasured (answering h t) m.control m.content ≡ unmeasured t m.control m.content
  unfolding is_silent
  head-alike = go m.control e
    where
      go : (c : Control) → of_response c ≡ false → unmeasured (answering h t) c m.content ≡ unmeasured t c m.content
      go (request q s a p) o = refl
      go (response hs s) o = let z : ◌≡◌ {A = ℕ} 0 1 = cc in absurd (omega arith)

  pub text-unused : http1_of (answering h t) m ≡ http1_of t m
  text-unused = text-alike t (answering h t) m head-alike

  pub fits-unused : http1_fits (answering h t) m ≡ http1_fits t m
  fits-unused = fits-alike t (answering h t) m head-alike

pub requests-head-unused : RequestsHeadUnused
requests-head-unused t h m e = written-alike t (answering h t) m (head-alike t h m e) refl

-- that the connection has closed
pub closed-unused : ClosedUnused
unfolding ends_at_head is_silent
closed-unused t c m = written-alike t (closing c t) m (go m.control) refl
  where
    go : (k : Control) → unmeasured (closing c t) k m.content ≡ unmeasured t k m.content
    go (request q s a p) = refl
    go (response hs s) = refl

-- the edition that was read
module _ (t : Told) (e : ℕ) (m : Meaning) where
  edition-alike : unmeasured (in_edition e t) m.control m.content ≡ unmeasured t m.control m.content
  unfolding ends_at_head is_silent
  edition-alike = go m.control
    where
      go : (k : Control) → unmeasured (in_edition e t) k m.content ≡ unmeasured t k m.content
      go (request q s a p) = refl
      go (response hs s) = refl

  pub edition-text : http1_of (in_edition e t) m ≡ http1_of t m
  edition-text = text-alike t (in_edition e t) m edition-alike

  pub edition-fits : http1_fits (in_edition e t) m ≡ http1_fits t m
  edition-fits = fits-alike t (in_edition e t) m edition-alike

pub edition-unused : EditionUnused
edition-unused t e m = written-alike t (in_edition e t) m (edition-alike t e m) refl
