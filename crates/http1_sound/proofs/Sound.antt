-- What the two readers of HTTP/1.1 accept is sound.
use Prim.Native.Nat.{ℕ, zero, suc, ◌≤◌}
use mathlib.Core.Path.{◌≡◌, refl, ap, ◌∙◌}
use mathlib.Core.Bool.{Bool, true, false, cond, not}
use mathlib.Core.List.{List, [], ◌∷◌, ◌++◌, map}
use native.Mathlib.Omega.{arith}
use borrow.Author.Tests.{leb-false}
use lib.Dec.{leb}
use lib.ListN.{length, length-map}
use Rattle.std.proofs.Common.{Option}
use Rattle.octets.specs.Limits.{head_most, lines_most, informational_most}
use Rattle.octets.specs.Refusals.{not_supported, too_large}
use Rattle.script.specs.Script.{accepted, refused, Script, stop, run, Every}
use Rattle.script.specs.Do.{◌>>=◌, Piece, piece, word, tell, good}
use Rattle.script.proofs.Do.{every_bind, every-tell, every-then}
use Rattle.script.proofs.Sound.{says, sound-all}
use Rattle.messages.specs.Told.{is_yes, answering, closing}
use Rattle.messages.specs.declared.Told.{Told}
use Rattle.messages.specs.Message.{InformationalRead, request_start, response_start, Message, plain_message, stating_message, FieldRead, path_octets}
use Rattle.messages.specs.Control.{status_verdict, is_informational, is_bodyless, ends_at_head, is_host, passed}
use Rattle.messages.specs.Names.{kept, kept_trailers, lines_of}
use Rattle.messages.specs.Rules.{framing_of, request_body, nothing_stated, response_body, length_in, stated_in, target_authority}
use Rattle.messages.specs.Meaning.{field_means, content_of, meaning}
use Rattle.messages.specs.Valid.{is_scheme, valid_body, valid_stated, suits}
use Rattle.messages.specs.declared.Body.{Body}
use Rattle.messages.specs.declared.Kind.TheVariants as kind
use Rattle.http1_lines.specs.Lines.{RequestRead, request_of, status_of}
use Rattle.http1_lines.specs.Read.{line_within, less, Lines, section, Content, content, after_head, request, read_request, ResponseCall, response_call, after_final, heads, heads_then, read_response}
use Rattle.sound.specs.Sound.{Sound, StatesLength}
use Rattle.http1_sound.specs.Read.{IsRequest, IsResponse, Unmeasured, SoundRequest, RequestsSound, ResponsesSound, Http1Reads, InTarget}
use Rattle.sound.proofs.Parts.{SectionAt, request-valid, HeadsAt, head_at, heads-none, heads-snoc, heads-lie, heads-good, response-valid, PartsAt, parts-sound}
use Rattle.sound.proofs.Rules.{HostIs, host-lies}
use Rattle.sound.proofs.Stated.{stated-few, content-status, none-stated}
use Rattle.http1_sound.proofs.Rules.{HostOf, host-of, Fills, Reaches, ends-with-stream, request-framed, ResponseFramed, response-framed}
use Rattle.http1_sound.proofs.Lines.{RequestAt, request-at, status-good, TargetHost}
use Rattle.http1_sound.proofs.Sections.{SectionRead, every-section, ContentAt, every-content}
use Rattle.http1_sound.proofs.Closing.{closed-later}
use Rattle.http1_sound.proofs.Front.{request-within, response-within, request-front, response-front}
use mathlib.Core.Logic.{◌⊎◌, inl, inr}
use Rattle.octets.specs.Text.{is_empty}
use Rattle.sound.specs.Placed.{Lying}

-- ---- requests

abbrev request_message : Told → RequestRead → Piece → Lines → Content → Message
request_message t q a h c = plain_message (request_start q.method t.scheme a q.path) h.lines c.chunks c.trailers

-- the authority lies in the input and names a host; it is the one host line's value, or the target's
record HostAt (s : List ℕ) (q : RequestRead) (fs : List FieldRead) (a : Piece) : Type 0 where
  line : FieldRead
  one : lines_of kind.Host fs ≡ line ∷ []
  from : (a ≡ line.value) ⊎ InTarget a q.path
  good : is_host a.text ≡ true
  lies : Lying s a

host-at : (s : List ℕ) (q : RequestRead) (fs : List FieldRead) (a : Piece) → RequestAt s q → SectionAt s fs → HostOf q.authority fs a → HostAt s q fs a
host-at s q fs a r k o = go o.from
  where
    own : (b : Piece) → b ≡ q.authority → TargetHost q.authority q.path → is_empty q.authority.text ≡ false → HostAt s q fs b
    own b e (inl i) f = let z : ◌≡◌ {A = ℕ} 0 1 = cc in absurd (omega arith)
    own b e (inr i) f =
        record { line = o.line; one = o.one; from = inr (rw e i.1); good = rw e i.0; lies = rw e r.authority }

    go : ((a ≡ o.line.value) × (is_host a.text ≡ true)) ⊎ ((a ≡ q.authority) × (is_empty q.authority.text ≡ false)) → HostAt s q fs a
    go (inl e) =
        let h : HostIs fs a = record { line = o.line; one = o.one; same = e.0; good = e.1 } in
        record { line = o.line; one = o.one; from = inl e.0; good = e.1; lies = host-lies s fs a k h }
    go (inr e) = own a e.0 r.target e.1

request-parts : (s : List ℕ) (t : Told) (q : RequestRead) (a : Piece) (h : Lines) (c : Content) → is_scheme t.scheme ≡ true → RequestAt s q
    → SectionAt s h.lines → HostAt s q h.lines a → ContentAt s c → PartsAt s (request_message t q a h c)
unfolding valid_body
request-parts s t q a h c e r k p x = record {
  control = request-valid q.method.text a.text (path_octets q.path) t.scheme r.method_good e p.good r.path_good;
  body = refl;
  stated = none-stated _;
  start = (r.method, p.lies, r.path);
  heads = tt;
  lines = k;
  chunks = x.chunks;
  trailers = x.trailers;
  names = x.names;
  long = omega arith;
}

-- what is known of each request at its end
record RequestEnd (t : Told) (s : List ℕ) (m : Message) : Type 0 where
  sound : Sound s m
  request : IsRequest t m.lines m.start
  suits : suits t (meaning m) ≡ true
  stated : StatesLength t m.start (framing_of m.lines) m

every-request : (s : List ℕ) (t : Told) (at : ℕ) → is_scheme t.scheme ≡ true → Every s (λ n m. RequestEnd t s m) at (request t)
unfolding request after_head suits meaning
every-request s t at sc =
    every_bind s _ at (word (line_within head_most)) _ λ w g y.
    every_bind s _ _ (tell (request_of t.scheme (piece at w))) _ (every-tell s _ _ (request_of t.scheme (piece at w)) λ q e.
    every-then s (λ n h. SectionRead s n h) _ _ (section (less head_most (piece at w))) _ (every-section s (less head_most (piece at w)) _) λ i h k.
    every_bind s _ _ (tell (target_authority h.end q.authority h.lines)) _ (every-tell s _ _ (target_authority h.end q.authority h.lines) λ a p.
    every_bind s _ _ (tell (request_body h.end (framing_of h.lines))) _ (every-tell s _ _ (request_body h.end (framing_of h.lines)) λ b r.
    let f = request-framed h.end (framing_of h.lines) b r in
    let r' = request-at s t.scheme (piece at w) q e y in
    let o = host-at s q h.lines a r' k.lines (host-of h.end q.authority h.lines a p) in
    every-then s (λ n c. ContentAt s c × Fills b c × Reaches (length s) b i n) _ _ (content b) _ (every-content s b _ f.fits) λ j c x.
    record {
      sound = parts-sound s (request_message t q a h c) (request-parts s t q a h c sc r' k.lines o x.0);
      request = (refl, o.line, o.one, o.from);
      suits = refl;
      stated = (f.stated c x.1, refl);
    })))

pub request-sound : RequestsSound
unfolding read_request
request-sound t s n m e = go (is_scheme t.scheme) refl e
  where
    go : (b : Bool) → is_scheme t.scheme ≡ b → cond b (run (request t) 0 s) (refused not_supported 0) ≡ accepted n m → SoundRequest t s n m
    go true q g =
        let h = says (λ i x. RequestEnd t s x × (i ≤ length s)) (sound-all (λ i x. RequestEnd t s x) (request t) s (every-request s t 0 q)) g in
        let w = request-within t s n m e in
        record { sound = h.0.sound; request = h.0.request; suits = h.0.suits; stated = h.0.stated; some = w.0; within = w.1 }
    go false q g = let z : ◌≡◌ {A = ℕ} 0 1 = cc in absurd (omega arith)

-- ---- responses

abbrev response_message : Told → List InformationalRead → ℕ → Lines → Content → Message
response_message t hs n h c = stating_message (stated_in t n (framing_of h.lines)) (response_start hs n) h.lines c.chunks c.trailers

-- a body as its status has it, and as it suits what is told; and a stated length that is valid
record ResponseTail (t : Told) (hs : List InformationalRead) (n : ℕ) (h : Lines) (c : Content) : Type 0 where
  body : valid_body (not (is_bodyless n)) (content_of c.chunks) (map field_means (kept_trailers c.trailers)) ≡ true
  suits : suits t (meaning (response_message t hs n h c)) ≡ true
  valid : valid_stated (stated_in t n (framing_of h.lines)) (meaning (response_message t hs n h c)) ≡ true

response-tail : (t : Told) (hs : List InformationalRead) (n : ℕ) (h : Lines) (b : Body) (c : Content) → length h.lines ≤ lines_most
    → {e : Option ℕ} → ResponseFramed t e n h.end (framing_of h.lines) b → Fills b c → ResponseTail t hs n h c
unfolding suits meaning stated_in valid_body
response-tail t hs n h b c few f y = go (ends_at_head t n) refl
  where
    go : (x : Bool) → ends_at_head t n ≡ x → ResponseTail t hs n h c
    go true q = record {
      body = f.empty q (not (is_bodyless n)) c y;
      suits = rw q (f.empty q false c y);
      valid =
          let z : stated_in t n (framing_of h.lines) ≡ length_in (framing_of h.lines) = rw q in
          ap (λ (x : Option ℕ). valid_stated x (meaning (response_message t hs n h c))) z
          ∙ f.valid q _ (meaning (response_message t hs n h c)) refl (f.empty q false c y) λ k p e.
          rw (length-map (kept true h.lines) field_means) (stated-few true h.lines few k p e);
    }
    go false q = record { body = rw (content-status t n q); suits = rw q; valid = rw q (none-stated _) }

response-parts : (s : List ℕ) (t : Told) (hs : List InformationalRead) (n : ℕ) (h : Lines) (c : Content) → HeadsAt s hs → status_verdict n ≡ passed
    → is_informational n ≡ false → SectionAt s h.lines → ContentAt s c → ResponseTail t hs n h c → PartsAt s (response_message t hs n h c)
response-parts s t hs n h c a v i k x y = record {
  control = response-valid s hs n a v i;
  body = y.body;
  stated = y.valid;
  start = heads-lie s hs a;
  heads = heads-good s hs a;
  lines = k;
  chunks = x.chunks;
  trailers = x.trailers;
  names = x.names;
  long = omega arith;
}

-- what is known of each response at its end, which is the place i
record ResponseEnd (t : Told) (s : List ℕ) (i : ℕ) (m : Message) : Type 0 where
  sound : Sound s m
  response : IsResponse m.start
  suits : suits t (meaning m) ≡ true
  stated : StatesLength t m.start (framing_of m.lines) m
  whole : Unmeasured t m.lines m.start → i ≡ length s
  closed : Unmeasured t m.lines m.start → is_yes t.closed ≡ true

module _ (s : List ℕ) (t : Told) where
  -- the call on this stream
  abbrev call : ResponseCall
  call = response_call t (length s)

  every-final : (at : ℕ) (hs : List InformationalRead) (n : ℕ) (h : Lines) → HeadsAt s hs → status_verdict n ≡ passed → is_informational n ≡ false
      → SectionRead s at h → Every s (ResponseEnd t s) at (after_final call hs n h)
  unfolding after_final
  every-final at hs n h a v i k =
      every_bind s _ at (tell (response_body t call.ending n h.end (framing_of h.lines))) _
      (every-tell s _ _ (response_body t call.ending n h.end (framing_of h.lines)) λ b r.
      let f = response-framed t call.ending n h.end (framing_of h.lines) b r in
      every-then s (λ j c. ContentAt s c × Fills b c × Reaches (length s) b at j) _ _ (content b) _ (every-content s b _ f.fits) λ j c x.
      let y = response-tail t hs n h b c k.lines.few f x.1 in
      let z : Reaches (length s) b h.end j = rw k.end x.2 in
      let o : Unmeasured t h.lines (response_start hs n) → (is_yes t.closed ≡ true) × (j ≡ length s) =
      λ u. ends-with-stream t (length s) h.end j b c x.1 z (f.unmeasured u.0 u.1) in
      record {
        sound = parts-sound s (response_message t hs n h c) (response-parts s t hs n h c a v i k.lines x.0 y);
        response = tt;
        suits = y.suits;
        stated = record { once = f.once; none = f.none; stated = refl; agrees = λ o. f.stated o c x.1 };
        whole = λ u. (o u).1;
        closed = λ u. (o u).0;
      })

  every-heads : (f at : ℕ) (hs : List InformationalRead) (left : ℕ) → HeadsAt s hs → Every s (ResponseEnd t s) at (heads call f hs left)
  unfolding heads_then
  every-heads zero at hs left a = tt
  every-heads (suc f) at hs left a =
      every_bind s _ at (word (line_within left)) _ λ w g y.
      every_bind s _ _ (tell (status_of (piece at w))) _ (every-tell s _ _ (status_of (piece at w)) λ n e.
      pick (less left (piece at w)) _ n (status-good (piece at w) n e) (is_informational n) refl (leb informational_most (length hs)) refl
      (λ i h l b. every-heads f i (hs ++ h ∷ []) l b))
    where
      pick : (l i n : ℕ) → status_verdict n ≡ passed → (b : Bool) → is_informational n ≡ b → (c : Bool) → leb informational_most (length hs) ≡ c
          → ((j : ℕ) (h : InformationalRead) (k : ℕ) → HeadsAt s (hs ++ h ∷ []) → Every s (ResponseEnd t s) j (heads call f (hs ++ h ∷ []) k))
          → Every s (ResponseEnd t s) i
          (cond b
          (cond c (stop too_large at)
          (section l >>= λ h. tell (nothing_stated h.end (framing_of h.lines)) >>= λ u. heads call f (hs ++ record { status = n; lines = h.lines } ∷ []) h.left))
          (section l >>= λ h. after_final call hs n h))
      pick l i n v true p true q ih = tt
      pick l i n v true p false q ih =
          every-then s (λ j h. SectionRead s j h) _ i (section l) _ (every-section s l i) λ j h k.
          every_bind s _ _ (tell (nothing_stated h.end (framing_of h.lines))) _ (every-tell s _ _ (nothing_stated h.end (framing_of h.lines)) λ u r.
          ih _ _ _ (heads-snoc s hs _ a (head_at s n h.lines v p k.lines) (leb-false informational_most (length hs) q)))
      pick l i n v false p c q ih =
          every-then s (λ j h. SectionRead s j h) _ i (section l) _ (every-section s l i) λ j h k.
          every-final j hs n h a v p k

pub response-sound : ResponsesSound
unfolding read_response
response-sound t s n m e =
    let sc : Script Message = heads (response_call t (length s)) (suc informational_most) [] head_most in
    let h = says (λ i x. ResponseEnd t s i x × (i ≤ length s)) (sound-all (ResponseEnd t s) sc s (every-heads s t (suc informational_most) 0 [] head_most (heads-none s))) e in
    let w = response-within t s n m e in
    record {
      sound = h.0.sound;
      response = h.0.response;
      suits = h.0.suits;
      stated = h.0.stated;
      some = w.0;
      within = w.1;
      whole = h.0.whole;
      closed = h.0.closed;
    }

-- a request does not look at whether a message answers a HEAD, nor at whether the connection has closed
pub request-head-unused : (t : Told) (h : ℕ) (s : List ℕ) → read_request (answering h t) s ≡ read_request t s
unfolding read_request request after_head
request-head-unused t h s = refl

pub request-closed-unused : (t : Told) (c : ℕ) (s : List ℕ) → read_request (closing c t) s ≡ read_request t s
unfolding read_request request after_head
request-closed-unused t c s = refl

pub http1-reads : Http1Reads
http1-reads = record {
  requests = request-front;
  responses = response-front;
  requests_sound = request-sound;
  responses_sound = response-sound;
  head_unused = request-head-unused;
  closed_later = closed-later;
  closed_unused = request-closed-unused;
}
