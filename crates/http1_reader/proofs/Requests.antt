-- A request, stage by stage, as the code reads it.
use Rattle.std.proofs.Common.{Err, Ok, Result}
use Prim.Native.Nat.{ℕ, ◌+◌, ◌-◌, ◌≤◌}
use mathlib.Core.Path.{◌≡◌, refl, sym, ap, ◌∙◌, subst}
use mathlib.Core.List.{List}
use mathlib.Core.Bool.{true, false}
use mathlib.Core.Logic.{◌⊎◌, inl, inr}
use native.Mathlib.Omega.{arith}
use lib.ListN.{length, take, drop}
use lib.Seq.{length-take-le}
use Rattle.octets.specs.Text.{is_empty}
use Rattle.octets.specs.Limits.{head_most}
use Rattle.octets.specs.Refusals.{not_supported, refusal_number, refused_at}
use Rattle.octets.specs.declared.Refusal.{Refusal}
use Rattle.octets.specs.declared.Refused.{Refused}
use Rattle.script.specs.Script.{Answer, accepted, refused, more, done, run, line_of}
use Rattle.script.specs.Do.{◌>>=◌, and_then, Piece, piece, tell, Judged, good, wrong}
use Rattle.script.specs.declared.Line.TheVariants.{Ends}
use Rattle.script.proofs.Laws.{run-done, run-stop}
use Rattle.script.proofs.Places.{line-ends, line-within, run_bind}
use Rattle.messages.specs.Message.{FieldRead, request_start, Message, plain_message}
use Rattle.messages.specs.Control.{is_host}
use Rattle.messages.specs.Rules.{target_authority, framing_of, request_body}
use Rattle.messages.specs.Answers.{record_of}
use Rattle.messages.specs.declared.Told.{Told}
use Rattle.messages.specs.Valid.{is_scheme}
use Rattle.messages.specs.declared.Body.{Body}
use Rattle.messages.specs.declared.Kind.TheVariants as kind
use Rattle.messages.specs.declared.Span.{Span}
use Rattle.messages.specs.declared.Stop.{Stop}
use Rattle.messages.specs.Answers.{Outcome}
use Rattle.http1_lines.specs.Lines.{RequestRead, request_lens, request_of}
use Rattle.http1_lines.specs.Read.{Lines, Content, section, content, after_head, request, read_request}
use Rattle.http1_lines.specs.declared.RequestLine.{RequestLine}
use Rattle.http1_lines.proofs.Views.{request-view}
use Rattle.sound.specs.Placed.{Each}
use Rattle.sound.proofs.Each.{each_of}
use Rattle.http1_sound.proofs.Rules.{HostOf, host-of, request-framed}
use Rattle.http1_parts.specs.Stops.{stopped, line_ended}
use Rattle.http1_parts.specs.Section.{Before}
use Rattle.http1_parts.specs.Content.{SizedWithin, ContentSays, Contented}
use Rattle.http1_parts.specs.declared.Section.{Section}
use Rattle.http1_parts.specs.declared.ContentRead.{ContentRead}
use Rattle.http1_parts.proofs.Stops.{line-stopped, err-of}
use Rattle.http1_reader.specs.Readers.{JudgedSays, HeadJudged, RequestJudged, RestRead, request_is, request_found, HeadFacts, RestSays}
use Rattle.http1_reader.specs.declared.JudgedHead.{JudgedHead}
use Rattle.http1_reader.proofs.Facts.{closes-noted, fits-within}

-- ---- the head's rules

pub record GoodHead (j : Judged Piece) (k : Judged Body) (r : JudgedHead) : Type 0 where
  pub authority : Piece
  pub found : j ≡ good authority
  pub place : authority.place ≡ r.authority.start
  pub long : length authority.text ≡ r.authority.len
  pub body : k ≡ good r.body

no-head : {A : Type 0} {e : Refused} {r : JudgedHead} → Ok r ≡ Err e → A
no-head e = let z : ◌≡◌ {A = ℕ} 0 1 = cc in absurd (omega arith)

pub head-good : {j : Judged Piece} {k : Judged Body} {r : JudgedHead} → HeadJudged j k (Ok r) → GoodHead j k r
head-good {j} {k} {r} h = go j k h.says
  where
    go : (j : Judged Piece) (k : Judged Body) → JudgedSays j k (Ok r) → GoodHead j k r
    go (good x) (good y) q =
        let w : JudgedHead = record { authority = record { start = x.place; len = length x.text }; body = y } in
        let z : w ≡ r = cc in
        record {
          authority = x;
          found = refl;
          place = ap (λ (u : JudgedHead). u.authority.start) z;
          long = ap (λ (u : JudgedHead). u.authority.len) z;
          body = ap (λ (u : JudgedHead). good u.body) z;
        }
    go (good x) (wrong i p) q = no-head q
    go (wrong i p) y q = no-head q

-- the message with a content
abbrev message_with : Told → RequestRead → Lines → Piece → Content → Message
message_with t q h a c = plain_message (request_start q.method t.scheme a q.path) h.lines c.chunks c.trailers

-- what stands behind a head that is refused
pub rest-refused : (t : Told) (q : RequestRead) (h : Lines) (s : List ℕ) (e : ℕ) {x : Refused}
    → HeadJudged (target_authority h.end q.authority h.lines) (request_body h.end (framing_of h.lines)) (Err x)
    → run (after_head t q h) e (drop e s) ≡ refused x.number x.place
unfolding after_head ◌>>=◌
rest-refused t q h s e {x} w = go (target_authority h.end q.authority h.lines) (request_body h.end (framing_of h.lines)) w.says
  where
    alike : (n m : ℕ) → ◌≡◌ {A = Result JudgedHead Refused} (Err x) (Err (refused_at n m)) → ◌≡◌ {A = Answer Message} (refused n m) (refused x.number x.place)
    alike n m u = let y : Refused = refused_at n m in let z : y ≡ x = cc in ap (λ (y : Refused). refused y.number y.place) z

    go : (j : Judged Piece) (k : Judged Body) → JudgedSays j k (Err x)
        → run (tell j >>= λ a. tell k >>= λ b. content b >>= λ c. done (message_with t q h a c)) e (drop e s) ≡ refused x.number x.place
    go (good a) (good b) u = no-head (sym u)
    go (good a) (wrong n m) u = run-stop n m e (drop e s) ∙ alike n m u
    go (wrong n m) b u = run-stop n m e (drop e s) ∙ alike n m u

rest-content : (t : Told) (q : RequestRead) (h : Lines) (s : List ℕ) (e : ℕ) (a : Piece) (b : Body)
    → target_authority h.end q.authority h.lines ≡ good a → request_body h.end (framing_of h.lines) ≡ good b
    → run (after_head t q h) e (drop e s) ≡ and_then (run (content b) e (drop e s)) (λ n c. accepted n (message_with t q h a c))
unfolding after_head ◌>>=◌
rest-content t q h s e a b u v =
    rw (u, v) (run_bind (content b) (λ c. done (message_with t q h a c)) s e ∙ go (run (content b) e (drop e s)))
  where
    go : (x : Answer Content) → and_then x (λ n c. run (done (message_with t q h a c)) n (drop n s)) ≡ and_then x (λ n c. accepted n (message_with t q h a c))
    go (accepted n c) = run-done (message_with t q h a c) n (drop n s)
    go (refused n p) = refl
    go more = refl

-- what stands behind a head that is good, with its content as it was read
module _ (t : Told) (q : RequestRead) (h : Lines) (s : List ℕ) (l : RequestLine) (r : Section) (a : JudgedHead)
    (g : GoodHead (target_authority h.end q.authority h.lines) (request_body h.end (framing_of h.lines)) a) (cs cs' ts ts' : List ℕ) where
  with-content : (o : Outcome) → RestSays (and_then (run (content a.body) r.end (drop r.end s)) (λ n c. accepted n (message_with t q h g.authority c))) cs cs' ts ts' o
      → RestSays (run (after_head t q h) r.end (drop r.end s)) cs cs' ts ts' o
  with-content o u = subst (λ (x : Answer Message). RestSays x cs cs' ts ts' o) (sym (rest-content t q h s r.end g.authority a.body g.found g.body)) u

  pub content-stopped : {e : Stop} → Contented (run (content a.body) r.end (drop r.end s)) cs cs' ts ts' (Err e) → RestSays (run (after_head t q h) r.end (drop r.end s)) cs cs' ts ts' (Err e)
  content-stopped {e} w = with-content (Err e) (go (run (content a.body) r.end (drop r.end s)) w.says)
    where
      go : (x : Answer Content) → ContentSays x cs cs' ts ts' (Err e) → RestSays (and_then x (λ n c. accepted n (message_with t q h g.authority c))) cs cs' ts ts' (Err e)
      go (accepted i d) u = let x = u.0 in let z : ◌≡◌ {A = ℕ} 0 1 = cc in absurd (omega arith)
      go (refused i j) u = err-of u
      go more u = err-of u

  pub content-read : HeadFacts s q h l r → {c : ContentRead} → Contented (run (content a.body) r.end (drop r.end s)) cs cs' ts ts' (Ok c)
      → RestSays (run (after_head t q h) r.end (drop r.end s)) cs cs' ts ts' (Ok (request_found t l r a c))
  unfolding record_of
  content-read f {c} w = with-content (Ok (request_found t l r a c)) (go (run (content a.body) r.end (drop r.end s)) w.says)
    where
      go : (x : Answer Content) → ContentSays x cs cs' ts ts' (Ok c)
          → RestSays (and_then x (λ n c. accepted n (message_with t q h g.authority c))) cs cs' ts ts' (Ok (request_found t l r a c))
      go (accepted i d) u = (
        ap (λ (x : Result ContentRead Stop). found_in x) u.0 ∙ rw (f.method, f.prefix, f.path, f.fields, g.place, g.long, closes-noted r.notes h f.notes) refl,
        u.1,
        u.2,
      )
        where
          found_in : Result ContentRead Stop → Outcome
          found_in (Ok c) = Ok (request_found t l r a c)
          found_in (Err e) = Err e
      go (refused i j) u = let z : ◌≡◌ {A = ℕ} 0 1 = cc in absurd (omega arith)
      go more u = let z : ◌≡◌ {A = ℕ} 0 1 = cc in absurd (omega arith)

-- ---- bounds

-- the authority ends at or before the head
pub authority-before : (e : ℕ) (q : Piece) (fs : List FieldRead) (a : JudgedHead) {k : Judged Body} → Each (Before e) fs → q.place + length q.text ≤ e
    → GoodHead (target_authority e q fs) k a → a.authority.start + a.authority.len ≤ e
authority-before e q fs a h i g = go w.from
  where
    w : HostOf q fs g.authority
    w = host-of e q fs g.authority g.found

    go : ((g.authority ≡ w.line.value) × (is_host g.authority.text ≡ true)) ⊎ ((g.authority ≡ q) × (is_empty q.text ≡ false)) → a.authority.start + a.authority.len ≤ e
    go (inl v) =
        let l = rw w.one at (each_of (Before e) kind.Host fs h) in
        let z = ap (λ (x : Piece). x.place + length x.text) v.0 in
        omega (arith, l.0, g.place, g.long, z)
    go (inr v) = let z = ap (λ (x : Piece). x.place + length x.text) v.0 in omega (arith, i, g.place, g.long, z)

pub body-within : (e : ℕ) (fs : List FieldRead) (a : JudgedHead) {j : Judged Piece} → GoodHead j (request_body e (framing_of fs)) a → SizedWithin a.body
body-within e fs a g = fits-within a.body (request-framed e (framing_of fs) a.body g.body).fits

-- ---- the request line

pub scheme-other : (t : Told) (s : List ℕ) → is_scheme t.scheme ≡ false → read_request t s ≡ refused not_supported 0
unfolding read_request
scheme-other t s e = rw e refl

module _ (t : Told) (s : List ℕ) (y : is_scheme t.scheme ≡ true) where
  pub first-stopped : {e : Stop} → Err e ≡ line_ended 0 (line_of (drop 0 s) head_most 0 0) → read_request t s ≡ stopped e
  unfolding read_request request ◌>>=◌
  first-stopped e = rw y (line-stopped _ _ s 0 e)

  module _ (next : ℕ) (e : line_of (drop 0 s) head_most 0 0 ≡ Ends next) where
    first : read_request t s
        ≡ run (tell (request_of t.scheme (piece 0 (take (next - 2) s))) >>= λ q. section (head_most - (length (take (next - 2) s) + 2)) >>= after_head t q) next (drop next s)
    unfolding read_request request ◌>>=◌
    first = let z : next - 2 - 0 ≡ next - 2 = omega arith in rw y (line-ends _ _ _ _ s 0 next e ∙ rw z refl)

    first-long-as : length (take (next - 2) s) ≡ next - 2
    first-long-as = length-take-le (next - 2) s (omega (arith, line-within s head_most 0 next (omega arith) e))

    pub first-wrong : (k : Refusal) → request_lens t.scheme (take (next - 2) s) ≡ Err k → read_request t s ≡ refused (refusal_number k) 0
    unfolding request_of ◌>>=◌
    first-wrong k q = first ∙ rw (q, run-stop) refl

    pub first_rest : (l : RequestLine) → request_lens t.scheme (take (next - 2) s) ≡ Ok l
        → read_request t s ≡ run (section (head_most - next) >>= after_head t (request_is s next l)) next (drop next s)
    unfolding request_of ◌>>=◌
    first_rest l q =
        let n : head_most - (length (take (next - 2) s) + 2) ≡ head_most - next = omega (arith, first-long-as, line-within s head_most 0 next (omega arith) e) in
        first ∙ rw (q, n) refl

-- what is known of the request line's end
pub first-in : (scheme : ℕ) (s : List ℕ) (next : ℕ) (l : RequestLine) → line_of (drop 0 s) head_most 0 0 ≡ Ends next
    → request_lens scheme (take (next - 2) s) ≡ Ok l
    → (next ≤ length s) × (l.method + 1 + (l.target.start + l.target.len) + 11 ≡ next) × (l.method + 1 + (l.target.host + l.target.hostlen) + 2 ≤ next) × (next ≤ head_most)
first-in scheme s next l e q =
    let k = line-within s head_most 0 next (omega arith) e in
    let v = request-view scheme (take (next - 2) s) l.method l.target q in
    let n = length-take-le (next - 2) s (omega (arith, k)) in
    (k.1, omega (arith, v.size, n, k), omega (arith, v.within, n, k), omega (arith, k))

-- ---- as the code has it

-- where the target's authority stands
abbrev pub host_of : RequestLine → Span
host_of l = record { start = l.method + 1 + l.target.host; len = l.target.hostlen }

module _ (s : List ℕ) (t : Told) (l : RequestLine) (r : Section) where
  head_of : {x : Result JudgedHead Refused} → RequestJudged s (host_of l) r.end r.notes x → (q : RequestRead) (h : Lines) → HeadFacts s q h l r
      → HeadJudged (target_authority h.end q.authority h.lines) (request_body h.end (framing_of h.lines)) x
  head_of {x} w q h f =
      subst (λ (z : ℕ). HeadJudged (target_authority z q.authority h.lines) (request_body z (framing_of h.lines)) x) (sym f.end)
      (w.by q.authority f.authority f.named h.lines f.notes f.lie)

  pub rest-wrong : {x : Refused} → RequestJudged s (host_of l) r.end r.notes (Err x) → {cs cs' ts ts' : List ℕ} → RestRead s t l r cs cs' ts ts' (Err (Stop.Refused x))
  rest-wrong {x} w {cs} {cs'} {ts} {ts'} =
      record {
        by = λ q h f. subst (λ (z : Answer Message). RestSays z cs cs' ts ts' (Err (Stop.Refused x))) (sym (rest-refused t q h s r.end (head_of w q h f))) refl;
      }

  module _ {a : JudgedHead} (w : RequestJudged s (host_of l) r.end r.notes (Ok a)) where
    good_of : (q : RequestRead) (h : Lines) → HeadFacts s q h l r → GoodHead (target_authority h.end q.authority h.lines) (request_body h.end (framing_of h.lines)) a
    good_of q h f = head-good (head_of w q h f)

    pub rest-stopped : {cs cs' ts ts' : List ℕ} {e : Stop} → Contented (run (content a.body) r.end (drop r.end s)) cs cs' ts ts' (Err e) → RestRead s t l r cs cs' ts ts' (Err e)
    rest-stopped u = record { by = λ q h f. content-stopped t q h s l r a (good_of q h f) _ _ _ _ u }

    pub rest-good : {cs cs' ts ts' : List ℕ} {c : ContentRead} → Contented (run (content a.body) r.end (drop r.end s)) cs cs' ts ts' (Ok c)
        → RestRead s t l r cs cs' ts ts' (Ok (request_found t l r a c))
    rest-good u = record { by = λ q h f. content-read t q h s l r a (good_of q h f) _ _ _ _ f u }

    pub rest-bounds : (q : RequestRead) (h : Lines) → HeadFacts s q h l r → SizedWithin a.body × (a.authority.start + a.authority.len ≤ r.end)
    rest-bounds q h f =
        let y = good_of q h f in
        let i : q.authority.place + length q.authority.text ≤ h.end = omega (arith, f.end, f.authority, f.named, f.inside) in (
          body-within h.end h.lines a y,
          omega (arith, f.end, authority-before h.end q.authority h.lines a (subst (λ (z : ℕ). Each (Before z) h.lines) (sym f.end) f.before) i y),
        )
