-- What the reader of Binary HTTP accepts is sound.
use Prim.Native.Nat.{ℕ, zero, suc, ◌<◌, ◌≤◌}
use mathlib.Core.Path.{◌≡◌, refl, sym, subst}
use mathlib.Core.Bool.{Bool, true, false, cond, not}
use mathlib.Core.Logic.{◌⊎◌, inl, inr}
use mathlib.Core.List.{List, [], ◌∷◌, ◌++◌, map}
use native.Mathlib.Omega.{arith}
use borrow.Author.Tests.{leb-true, leb-false, ltb-true}
use lib.Dec.{leb, eqb}
use lib.ListN.{length, length-map}
use Rattle.std.proofs.Common.{Option, None}
use Rattle.octets.specs.Limits.{binary_most, informational_most}
use Rattle.octets.specs.Refusals.{too_large, bad_edition}
use Rattle.octets.specs.Text.{is_empty}
use Rattle.octets.proofs.Texts.{some}
use Rattle.script.specs.Script.{accepted, refused}
use Rattle.script.specs.Do.{Piece, good}
use Rattle.script.proofs.Places.{lies-all}
use Rattle.messages.specs.Message.{FieldRead, Section, InformationalRead, request_start, response_start, Message, counted_message, whole_path}
use Rattle.messages.specs.Control.{is_host, status_verdict, is_informational, is_bodyless, ends_at_head, passed}
use Rattle.messages.specs.Names.{lines_of, kept, kept_trailers}
use Rattle.messages.specs.Rules.{authority_in, binary_framing_of, nothing_stated, bodyless_rule, may_state, stated_in}
use Rattle.messages.specs.Notes.{is_clashing}
use Rattle.messages.specs.Meaning.{Field, field_means, informational_means, content_of, meaning}
use Rattle.messages.specs.Valid.{is_scheme, valid_body, valid_stated, suits}
use Rattle.messages.specs.declared.Body.{Body}
use Rattle.messages.specs.declared.Framing.{Framing}
use Rattle.messages.specs.declared.Framing.TheVariants.{Unstated, Stated, Chunked, Clashing}
use Rattle.messages.specs.declared.Kind.TheVariants as kind
use Rattle.messages.specs.declared.Told.{Told}
use Rattle.messages.specs.Told.{is_edition}
use Rattle.messages.proofs.Verdicts.{host-made}
use Rattle.messages.proofs.Valid.{host-ok}
use Rattle.numbers.specs.Integer.{read_int}
use Rattle.binary.specs.Reader.{Got, got, no, cursor, ◌>>=◌, integer}
use Rattle.binary.specs.declared.Form.{Form}
use Rattle.binary.specs.declared.Cursor.{Cursor}
use Rattle.binary.specs.Read.{RequestControl, after_head, after_control, request_message, after_final, after_final_status, after_informational}
use Rattle.binary.specs.Read.{after_informational_status, heads, after_indicator, message, message_answer, read_sized, read_binary}
use Rattle.sound.specs.Placed.{Each, Lying}
use Rattle.sound.specs.Sound.{StatesLength, ResponseLength}
use Rattle.sound.proofs.Each.{each_snoc}
use Rattle.sound.proofs.Parts.{SectionAt, request-valid, HeadsAt, head_at, heads-none, heads-snoc, heads-lie, heads-good, response-valid, PartsAt, parts-sound}
use Rattle.sound.proofs.Rules.{AuthorityIs, authority-is, host-lies, nothing-stated}
use Rattle.sound.proofs.Stated.{stated-few-binary, Bodyless, bodyless, content-status, content-not-204, none-stated}
use Rattle.binary_sound.specs.Sound.{GoodStart, LowerName, LowerNames, SoundBinary, BinarySound}
use Rattle.binary_sound.proofs.Judgement.{Stands, Gets, Every, every-refuse, every_here, every-tell, every-rule, stops-if, every-integer, stops-bind, stops_then}
use Rattle.binary_sound.proofs.Parts.{ControlAt, every-control}
use Rattle.binary_sound.proofs.Lines.{LinesAt, every-section, every-header}
use Rattle.binary_sound.proofs.Content.{body-valid, TailAt, every-after}

-- what is known of each message at its end, told t
pub record MessageAt (t : Told) (s : List ℕ) (m : Message) : Type 0 where
  pub parts : PartsAt s m
  pub start : GoodStart m.start m.lines
  pub suits : suits t (meaning m) ≡ true
  pub stated : StatesLength t m.start (binary_framing_of m.lines) m
  pub names : LowerNames m

may-state : (end : ℕ) (f g : Framing) → may_state end f ≡ good g → (f ≡ g) × (is_clashing f ≡ false)
unfolding may_state
may-state end Unstated g e = (cc, refl)
may-state end (Stated n p) g e = (cc, refl)
may-state end Chunked g e = (cc, refl)
may-state end Clashing g e = let z : ◌≡◌ {A = ℕ} 0 1 = cc in absurd (omega arith)

-- ---- requests

record AuthorityAt (s : List ℕ) (fs : List FieldRead) (a : Piece) : Type 0 where
  lies : Lying s a
  host : is_host a.text ≡ true
  equal : Each (λ f. f.value.text ≡ a.text) (lines_of kind.Host fs)
  once : length (lines_of kind.Host fs) ≤ 1

authority-at : (s : List ℕ) (q : RequestControl) (fs : List FieldRead) (a : Piece) → ControlAt s q → SectionAt s fs → (b : Bool)
    → is_empty q.authority.text ≡ b → AuthorityIs b q.authority fs a → AuthorityAt s fs a
authority-at s q fs a c h true e k = record {
  lies = host-lies s fs a h k;
  host = k.good;
  equal = rw (k.one, k.same) (refl, tt);
  once = rw k.one (omega arith);
}
authority-at s q fs a c h false e k =
    let p = c.authority in
    let made : AuthorityAt s fs q.authority = record {
      lies = p.lies;
      host = host-made q.authority.text e p.short p.keeps;
      equal = k.equal;
      once = k.few;
    } in
    subst (AuthorityAt s fs) (sym k.same) made

scheme-number : (v : ℕ) → is_scheme v ≡ true → (v ≡ 0) ⊎ (v ≡ 1)
unfolding is_scheme
scheme-number zero h = inl refl
scheme-number (suc zero) h = inr refl
scheme-number (suc (suc v)) h = let z = ltb-true (suc (suc v)) 2 h in absurd (omega arith)

request-at : (w : Told) (s : List ℕ) (z : ℕ) → z ≤ binary_most → (q : RequestControl) (h : Section) (a : Piece) (f : Framing) (cs : List Piece) (ts : List FieldRead) → ControlAt s q
    → LinesAt s h.lines → AuthorityAt s h.lines a → binary_framing_of h.lines ≡ f → TailAt s true f cs ts
    → MessageAt w s (counted_message z None (request_start q.method q.scheme a (whole_path q.path)) h.lines cs ts)
unfolding suits meaning
request-at w s z small q h a f cs ts c l o g t = record {
  parts = record {
    control = request-valid q.method.text a.text q.path.text q.scheme c.method.keeps c.scheme o.host c.path.keeps;
    body = body-valid true cs ts t.filled.empty t.named.none;
    stated = none-stated _;
    start = (c.method.lies, o.lies, c.path.lies);
    heads = tt;
    lines = l.section;
    chunks = t.chunks;
    trailers = t.trailers.section;
    names = t.named.names;
    long = small;
  };
  start = record {
    scheme = scheme-number q.scheme c.scheme;
    some = some a.text (host-ok a.text o.host).some;
    host = o.host;
    equal = o.equal;
    once = o.once;
  };
  suits = refl;
  stated = (rw g t.filled.agreed, refl);
  names = record { heads = tt; lines = l.lower; trailers = t.trailers.lower };
}

-- ---- responses

record HeadsIn (s : List ℕ) (hs : List InformationalRead) : Type 0 where
  heads : HeadsAt s hs
  lower : Each (λ h. Each LowerName h.lines) hs
  unstated : Each (λ h. binary_framing_of h.lines ≡ Unstated) hs

one-more : (s : List ℕ) (hs : List InformationalRead) (n : ℕ) (fs : List FieldRead) → HeadsIn s hs → status_verdict n ≡ passed → is_informational n ≡ true
    → LinesAt s fs → binary_framing_of fs ≡ Unstated → length hs < informational_most → HeadsIn s (hs ++ record { status = n; lines = fs } ∷ [])
one-more s hs n fs a v i l u k = record {
  heads = heads-snoc s hs _ a.heads (head_at s n fs v i l.section) k;
  lower = each_snoc (λ (h : InformationalRead). Each LowerName h.lines) hs _ a.lower l.lower;
  unstated = each_snoc (λ (h : InformationalRead). binary_framing_of h.lines ≡ Unstated) hs _ a.unstated u;
}

-- neither content nor trailers are valid of any status
any-body : (b : Bool) (c : List ℕ) (ts : List Field) → valid_body false c ts ≡ true → valid_body b c ts ≡ true
unfolding valid_body
any-body true c ts h = refl
any-body false c ts h = h

module _ (t : Told) (s : List ℕ) (hs : List InformationalRead) (n : ℕ) (h : Section) (a : HeadsIn s hs) (v : status_verdict n ≡ passed)
    (i : is_informational n ≡ false) (l : LinesAt s h.lines) (z : ℕ) (small : z ≤ binary_most) (cs : List Piece) (ts : List FieldRead) where
  -- the message that states k
  response : Option ℕ → Message
  response k = counted_message z k (response_start hs n) h.lines cs ts

  response-at : (body : Bool) (f : Framing) (k : Option ℕ) → TailAt s body f cs ts
      → valid_body (not (is_bodyless n)) (content_of cs) (map field_means (kept_trailers ts)) ≡ true → valid_stated k (meaning (response k)) ≡ true
      → suits t (meaning (response k)) ≡ true → ResponseLength t n (binary_framing_of h.lines) (response k) → MessageAt t s (response k)
  unfolding response
  response-at body f k g b d u r = record {
    parts = record {
      control = response-valid s hs n a.heads v i;
      body = b;
      stated = d;
      start = heads-lie s hs a.heads;
      heads = heads-good s hs a.heads;
      lines = l.section;
      chunks = g.chunks;
      trailers = g.trailers.section;
      names = g.named.names;
      long = small;
    };
    start = a.unstated;
    suits = u;
    stated = r;
    names = record { heads = a.lower; lines = l.lower; trailers = g.trailers.lower };
  }

  -- where content may follow
  content-at : (f : Framing) → ends_at_head t n ≡ false → may_state h.end (binary_framing_of h.lines) ≡ good f → TailAt s true f cs ts
      → MessageAt t s (response None)
  unfolding response suits meaning stated_in
  content-at f q j g =
      let m = may-state h.end (binary_framing_of h.lines) f j in
      response-at true f None g (rw (content-status t n q) (body-valid true cs ts g.filled.empty g.named.none)) (none-stated _) (rw q)
      (record {
        once = m.1;
        none = content-not-204 t n q (binary_framing_of h.lines);
        stated = rw q;
        agrees = λ y. rw m.0 g.filled.agreed;
      })

  -- where the response ends at its head
  bodyless-at : (b : Body) → ends_at_head t n ≡ true → Bodyless n (binary_framing_of h.lines) b → TailAt s false Unstated cs ts
      → MessageAt t s (response (stated_in t n (binary_framing_of h.lines)))
  unfolding response suits meaning stated_in
  bodyless-at b q j g =
      let w = body-valid false cs ts g.filled.empty g.named.none in
      response-at false Unstated _ g (any-body (not (is_bodyless n)) _ _ w)
      (rw q
      (j.valid (map informational_means hs) _ refl w λ k p e.
      omega (arith, length-map (kept true h.lines) field_means, stated-few-binary true h.lines l.section.few k p e)))
      (rw q w)
      (record { once = j.once; none = j.none; stated = refl; agrees = λ y. let z : ◌≡◌ {A = ℕ} 0 1 = cc in absurd (omega arith) })

module _ (t : Told) {s : List ℕ} {e : ℕ} (within : e ≤ binary_most) where
  every-request : {at : Cursor} (form : Form) → Every s e (λ n m. MessageAt t s m × ((n.at ≡ e) × (m.long ≤ e))) at (request_message form)
  unfolding request_message after_control after_head
  every-request form =
      stops_then _ every-control λ i q c.
      stops_then _ (every-header form) λ j h l.
      stops-bind _ (every-tell (authority_in h.end q.authority h.lines) λ a p.
      stops-bind _ (every-tell (may_state h.end (binary_framing_of h.lines)) λ f g.
      let o = authority-at s q h.lines a c l.section (is_empty q.authority.text) refl (authority-is h.end q.authority h.lines a p) in
      every-after form true None _ h f λ x y z u cs ts d. (request-at t s z (omega (arith, u, within)) q h a f cs ts c l o (may-state h.end _ f g).0 d, (y, u))))

  every-final : {at : Cursor} (form : Form) (hs : List InformationalRead) (n : ℕ) → HeadsIn s hs → status_verdict n ≡ passed → is_informational n ≡ false
      → Every s e (λ i m. MessageAt t s m × ((i.at ≡ e) × (m.long ≤ e))) at (after_final_status t form hs n)
  unfolding after_final_status after_final response
  every-final form hs n a v i =
      stops_then _ (every-header form) λ j h l.
      stops-if (ends_at_head t n)
      (λ q.
      stops-bind _ (every-tell (bodyless_rule t n h.end (binary_framing_of h.lines)) λ b g.
      every-after form false _ _ h Unstated λ x y z u cs ts d. (bodyless-at t s hs n h a v i l z (omega (arith, u, within)) cs ts b q (bodyless t n h.end _ b g) d, (y, u))))
      (λ q.
      stops-bind _ (every-tell (may_state h.end (binary_framing_of h.lines)) λ f g.
      every-after form true None _ h f λ x y z u cs ts d. (content-at t s hs n h a v i l z (omega (arith, u, within)) cs ts f q g d, (y, u))))

  every-response : (f : ℕ) {at : Cursor} (form : Form) (hs : List InformationalRead) → HeadsIn s hs
      → Every s e (λ i m. MessageAt t s m × ((i.at ≡ e) × (m.long ≤ e))) at (heads t form f hs)
  unfolding heads after_informational_status after_informational
  every-response zero form hs a = every-refuse
  every-response (suc f) form hs a =
      stops-bind _ (every_here (stops-bind _ (every-integer _ _ λ i n.
      stops-bind _ (every-rule (status_verdict n) _ n λ v.
      stops-if (is_informational n)
      (λ b.
      stops-if (leb informational_most (length hs)) (λ c. every-refuse) λ c.
      stops_then _ (every-section form) λ j h l.
      stops-bind _ (every-tell (nothing_stated h.end (binary_framing_of h.lines)) λ u g.
      every-response f form _ (one-more s hs n h.lines a v b l (nothing-stated h.end _ u g).0 (leb-false informational_most (length hs) c))))
      (λ b. every-final form hs n a v b)))))

  every-message : {at : Cursor} → Every s e (λ n m. MessageAt t s m × ((n.at ≡ e) × (m.long ≤ e))) at (message t)
  unfolding message after_indicator
  every-message =
      let a : HeadsIn s [] = record { heads = heads-none s; lower = tt; unstated = tt } in
      stops-bind _ (every-integer _ _ λ i f.
      stops-if (eqb f 0) (λ u. every-request _) λ u.
      stops-if (eqb f 1) (λ v. every-response (suc informational_most) _ [] a) λ v.
      stops-if (eqb f 2) (λ w. every-request _) λ w.
      stops-if (eqb f 3) (λ x. every-response (suc informational_most) _ [] a) λ x. every-refuse)

-- the framing is an integer: an input without octets is cut off
not_none : (t : Told) (n : ℕ) (m : Message) → read_sized t [] ≡ accepted n m → ⊥
unfolding read_sized message integer read_int ◌>>=◌
not_none t n m q = let z : ◌≡◌ {A = ℕ} 0 1 = cc in omega arith

some-octets : (t : Told) (s : List ℕ) (n : ℕ) (m : Message) → read_sized t s ≡ accepted n m → 0 < length s
some-octets t [] n m q = absurd (not_none t n m q)
some-octets t (b ∷ s) n m q = omega arith

sized-sound : (t : Told) (s : List ℕ) (n : ℕ) (m : Message) → read_sized t s ≡ accepted n m → SoundBinary t s n m
unfolding read_sized
sized-sound t s n m q = on (leb (length s) binary_most) refl q
  where
    pick : length s ≤ binary_most → (x : Got Message) → Gets (λ k l y. Stands s (length s) k l × (MessageAt t s y × ((k.at ≡ length s) × (y.long ≤ length s)))) x
        → message_answer x ≡ accepted n m → SoundBinary t s n m
    pick h (got y k l) g z =
        let a : k.at ≡ n = cc in
        let b : y ≡ m = cc in
        let r : MessageAt t s m = subst (MessageAt t s) b g.1.0 in
        let w : k.at ≡ length s = g.1.1.0 in
        let v : m.long ≤ length s = subst (λ (x : Message). x.long ≤ length s) b g.1.1.1 in
        let i = some-octets t s n m q in
        record {
          sound = parts-sound s m r.parts;
          some = omega arith;
          whole = omega arith;
          small = omega arith;
          start = r.start;
          suits = r.suits;
          stated = r.stated;
          names = r.names;
          long = omega (arith, v, w, a);
        }
    pick h (no k p) g z = let w : ◌≡◌ {A = ℕ} 0 1 = cc in absurd (omega arith)

    on : (b : Bool) → leb (length s) binary_most ≡ b → cond b (message_answer (message t (cursor 0 0) s)) (refused too_large 0) ≡ accepted n m → SoundBinary t s n m
    on true h z =
        pick (leb-true (length s) binary_most h) (message t (cursor 0 0) s)
        ((every-message t {s = s} {e = length s} (leb-true (length s) binary_most h) {at = cursor 0 0}).go s (record { lies = lies-all s; ends = omega arith; few = omega arith })) z
    on false h z = let w : ◌≡◌ {A = ℕ} 0 1 = cc in absurd (omega arith)

pub binary-sound : BinarySound
unfolding read_binary
binary-sound t s n m q = on (is_edition t.edition) q
  where
    on : (b : Bool) → cond b (read_sized t s) (refused bad_edition 0) ≡ accepted n m → SoundBinary t s n m
    on true z = sized-sound t s n m z
    on false z = let w : ◌≡◌ {A = ℕ} 0 1 = cc in absurd (omega arith)
