-- The ways through the definitions of the code's functions, over plain variables.
use Rattle.std.proofs.Common.{None, Option, Some, Err, Ok, Result}
use Prim.Native.Nat.{ℕ, ◌+◌, ◌-◌, ◌<◌, ◌≤◌}
use mathlib.Core.Path.{◌≡◌, refl, sym, ap, ap₂, ◌∙◌}
use mathlib.Core.Bool.{Bool, true, false, cond}
use mathlib.Core.Logic.{◌⊎◌, inl, inr}
use mathlib.Core.List.{List, map}
use native.Mathlib.Omega.{arith}
use borrow.Author.Tests.{leb-true, eq-eqb, ne_eqb, lt-leb, le-leb, lt-ltb, le-ltb}
use lib.Dec.{leb}
use lib.ListN.{length, take, drop, length-take}
use Rattle.octets.specs.Text.{lower_of}
use Rattle.octets.specs.Limits.{head_most, lines_most, chunks_most, content_most, chunk_line_most, trailer_most}
use Rattle.octets.specs.Refusals.{bad_syntax, bad_host, bad_length, too_large}
use Rattle.octets.proofs.Kit.{into, no_true}
use Rattle.output.specs.Splice.{splice}
use Rattle.messages.specs.Control.{is_host}
use Rattle.messages.specs.Names.{kind_of, is_end_to_end}
use Rattle.messages.specs.Notes.{no_notes, note_of, body_answer}
use Rattle.messages.specs.Rules.{request_body}
use Rattle.messages.specs.declared.Notes.{Notes}
use Rattle.messages.specs.declared.Kind.{Kind}
use Rattle.messages.specs.declared.Kind.TheVariants as kind
use Rattle.messages.specs.declared.Hosts.{Hosts}
use Rattle.messages.specs.declared.Hosts.TheVariants.{Nothing, One, Several}
use Rattle.messages.specs.declared.Body.{Body}
use Rattle.messages.specs.declared.Body.TheVariants.{Sized, InChunks, UntilClosed}
use Rattle.octets.specs.declared.Refused.{Refused}
use Rattle.http1_lines.specs.Lines.{request_lens, field_lens, chunk_lens, field_parts}
use Rattle.http1_lines.specs.declared.Target.{Target}
use Rattle.http1_lines.specs.declared.RequestLine.{RequestLine}
use Rattle.http1_lines.specs.declared.FieldLine.{FieldLine}
use Rattle.http1_lines.proofs.Views.{request-view, field-within}
use Rattle.step_lines.specs.Stepping.{line_text, fresh, one_more, next_present}
use Rattle.step_lines.specs.Entries.{kept_text, entries, count_in}
use Rattle.step_lines.specs.declared.Present.{Present}
use Rattle.steps.specs.States.{Held, held, Gives, refuse, finish, reading, in_section, with_control, with_tally, begins}
use Rattle.steps.specs.Heads.{target_room, control_of, request_held, request_in, host_stands, hosted_by, kept_part, tally_of, host_behind, given_held, host_held, settle, content_from, on_body, head_end, host_from, host_at, field_noted, field_held, field_in}
use Rattle.steps.specs.Bodies.{content_tally, content_octet, size_tally, chunk_tally, chunk_sized, chunk_in, data_cr, chunk_end, chunk_octet, trailer_tally, trailer_noted, trailer_held, trailers_end, trailer_in}
use Rattle.steps.specs.declared.Control.{Control}
use Rattle.steps.specs.declared.Tally.{Tally}
use Rattle.steps.specs.declared.Phase.TheVariants as phase
use Rattle.steps.specs.declared.State.{State}
use Rattle.octets.specs.declared.Refusal.{Refusal}
use Rattle.octets.specs.Refusals.{refusal_number}

-- a state beside a room that stays
pub gives-state : {r x : State} (o : List ℕ) → r ≡ x → Gives (held x o) r o
gives-state o e = record { state = e; room = refl }

-- another description of the same
pub gives_as : (h : Held) {g : Held} {r : State} {o : List ℕ} → h ≡ g → Gives g r o → Gives h r o
gives_as h e g = rw e g

-- the side that a test picks
pub pick_yes : (t : Bool) (x y : Held) {r : State} {o : List ℕ} → t ≡ true → Gives x r o → Gives (cond t x y) r o
pick_yes true x y e g = g
pick_yes false x y e g = absurd (no_true e)

pub pick_no : (t : Bool) (x y : Held) {r : State} {o : List ℕ} → t ≡ false → Gives y r o → Gives (cond t x y) r o
pick_no true x y e g = absurd (no_true (sym e))
pick_no false x y e g = g

-- the text of a line, as the code takes it out of the room
pub line-part : (l : Present) (room : List ℕ) (n : ℕ) → n ≡ l.have - 1 → take (l.from + n - l.from) (drop l.from room) ≡ line_text l room
line-part l room n e = let k : l.from + n - l.from ≡ l.have - 1 = omega arith in rw k

pub begins-full : (st : State) {r : State} → st.present.left ≡ 0 → r ≡ refuse st too_large st.present.at → r ≡ begins st
unfolding begins
begins-full st e q = q ∙ rw (eq-eqb st.present.left 0 e)

pub begins-on : (st : State) → (st.present.left ≡ 0 → ⊥) → st ≡ begins st
unfolding begins
begins-on st e = rw (ne_eqb st.present.left 0 e)

-- ---- content and chunks

pub content-last : (st : State) {t : Tally} {s r : State} → st.present.have + 1 ≡ st.present.left → t ≡ content_tally st.tally st.present.left → s ≡ with_tally st t
    → r ≡ finish s (st.present.at + st.present.left) s.tally → r ≡ content_octet st
unfolding content_octet
content-last st e p q f = f ∙ rw (q, p, eq-eqb (st.present.have + 1) st.present.left e)

pub content-more : (st : State) {l : Present} {r : State} → (st.present.have + 1 ≡ st.present.left → ⊥) → l ≡ one_more st.present st.present.cr
    → r ≡ reading st st.phase l → r ≡ content_octet st
unfolding content_octet
content-more st e p f = f ∙ rw (p, ne_eqb (st.present.have + 1) st.present.left e)

module _ (st : State) (n : ℕ) {r : State} where
  pub chunk-none : {l : Present} {k : Notes} → n ≡ 0 → l ≡ fresh (st.present.at + (st.present.have + 1)) trailer_most st.control.end → k ≡ no_notes
      → r ≡ in_section st phase.TrailerLine l 0 k → r ≡ chunk_sized st n
  unfolding chunk_sized
  chunk-none e p q f = f ∙ rw (p, q, eq-eqb n 0 e)

  module _ (some : n ≡ 0 → ⊥) where
    pub chunk-many : chunks_most ≤ st.tally.chunks → r ≡ refuse st too_large st.present.at → r ≡ chunk_sized st n
    unfolding chunk_sized
    chunk-many e f = f ∙ rw (ne_eqb n 0 some, le-leb chunks_most st.tally.chunks e)

    module _ (few : st.tally.chunks < chunks_most) where
      pub chunk-large : content_most < st.tally.content + n → r ≡ refuse st too_large st.present.at → r ≡ chunk_sized st n
      unfolding chunk_sized
      chunk-large e f = f ∙ rw (ne_eqb n 0 some, lt-leb chunks_most st.tally.chunks few, lt-ltb content_most (st.tally.content + n) e)

      pub chunk-some : {l : Present} {t : Tally} {s : State} → st.tally.content + n ≤ content_most
          → l ≡ fresh (st.present.at + (st.present.have + 1)) (n + 2) st.control.end → t ≡ size_tally st.tally n → s ≡ with_tally st t
          → r ≡ reading s phase.Chunk l → r ≡ chunk_sized st n
      unfolding chunk_sized
      chunk-some e p q z f = f ∙ rw (p, z, q, ne_eqb n 0 some, lt-leb chunks_most st.tally.chunks few, le-ltb content_most (st.tally.content + n) e)

module _ (st : State) (w : List ℕ) {r : State} where
  pub chunk-good : (n : ℕ) → chunk_lens w ≡ Some n → r ≡ chunk_sized st n → r ≡ chunk_in st w
  unfolding chunk_in
  chunk-good n e f = f ∙ rw e

  pub chunk-bad : chunk_lens w ≡ None → r ≡ refuse st bad_syntax st.present.at → r ≡ chunk_in st w
  unfolding chunk_in
  chunk-bad e f = f ∙ rw e

module _ (st : State) (b : ℕ) {r : State} where
  pub end-no-cr : (st.present.cr ≡ 1 → ⊥) → r ≡ refuse st bad_syntax (st.present.at + st.tally.size) → r ≡ chunk_end st b
  unfolding chunk_end
  end-no-cr e f = f ∙ rw (ne_eqb st.present.cr 1 e)

  pub end-no-lf : st.present.cr ≡ 1 → (b ≡ 10 → ⊥) → r ≡ refuse st bad_syntax (st.present.at + st.tally.size) → r ≡ chunk_end st b
  unfolding chunk_end
  end-no-lf e h f = f ∙ rw (eq-eqb st.present.cr 1 e, ne_eqb b 10 h)

  pub end-good : {l : Present} {t : Tally} {s : State} → st.present.cr ≡ 1 → b ≡ 10 → l ≡ fresh (st.present.at + st.present.left) chunk_line_most st.control.end
      → t ≡ chunk_tally st.tally → s ≡ with_tally st t → r ≡ reading s phase.ChunkLine l → r ≡ chunk_end st b
  unfolding chunk_end
  end-good e h p q z f = f ∙ rw (p, z, q, eq-eqb st.present.cr 1 e, eq-eqb b 10 h)

  pub data-last : st.present.have + 1 ≡ st.present.left → r ≡ chunk_end st b → r ≡ chunk_octet st b
  unfolding chunk_octet
  data-last e f = f ∙ rw (eq-eqb (st.present.have + 1) st.present.left e)

  pub data-more : {c : ℕ} {l : Present} → (st.present.have + 1 ≡ st.present.left → ⊥) → c ≡ data_cr st b → l ≡ one_more st.present c → r ≡ reading st st.phase l → r ≡ chunk_octet st b
  unfolding chunk_octet
  data-more e q p f = f ∙ rw (p, q, ne_eqb (st.present.have + 1) st.present.left e)

-- ---- trailers

pub trailer-line : (st : State) (k : Kind) (n : Notes) {x : Bool} {t : Tally} {l : Present} {s q r : State} → x ≡ is_end_to_end false k → t ≡ trailer_tally st.tally x
    → l ≡ next_present st.present st.control.end → s ≡ with_tally st t → q ≡ in_section s st.phase l (st.lines + 1) n → r ≡ begins q → r ≡ trailer_noted st k n
unfolding trailer_noted
trailer-line st k n a b c d e f = f ∙ rw (e, d, c, b, a)

pub trailer-kept : (st : State) (w : List ℕ) (m c l : ℕ) {k : Kind} {n : Notes} {r : State} → k ≡ kind_of (map lower_of (take m w))
    → n ≡ note_of true st.notes k st.present.at (st.present.at + c) (take (c + l - c) (drop c w)) → r ≡ trailer_noted st k n → r ≡ trailer_held st w (kind_of (map lower_of (take m w))) c l
unfolding trailer_held
trailer-kept st w m c l a b f = let z : c + l - c ≡ l = omega arith in f ∙ rw (b, z, a)

pub trailers-good : (st : State) {r : State} → st.notes.trailers ≡ true → r ≡ finish st (st.present.at + 2) st.tally → r ≡ trailers_end st
unfolding trailers_end
trailers-good st e f = f ∙ rw e

pub trailers-bad : (st : State) {r : State} → st.notes.trailers ≡ false → r ≡ refuse st bad_length (st.present.at + 2) → r ≡ trailers_end st
unfolding trailers_end
trailers-bad st e f = f ∙ rw e

module _ (st : State) {n : ℕ} (len : n ≡ st.present.have - 1) (some : n ≡ 0 → ⊥) where
  some-text : st.present.have - 1 ≡ 0 → ⊥
  some-text e = some (len ∙ e)

module _ (st : State) (w : List ℕ) {n : ℕ} {r : State} (len : n ≡ st.present.have - 1) where
  pub trailer-empty : n ≡ 0 → r ≡ trailers_end st → r ≡ trailer_in st w
  unfolding trailer_in
  trailer-empty e f = f ∙ rw (eq-eqb (st.present.have - 1) 0 (sym len ∙ e))

  module _ (some : n ≡ 0 → ⊥) where
    pub trailer-many : lines_most ≤ st.lines → r ≡ refuse st too_large st.present.at → r ≡ trailer_in st w
    unfolding trailer_in
    trailer-many e f = f ∙ rw (ne_eqb (st.present.have - 1) 0 (some-text st len some), le-leb lines_most st.lines e)

    module _ (few : st.lines < lines_most) where
      pub trailer-bad : field_lens w ≡ None → r ≡ refuse st bad_syntax st.present.at → r ≡ trailer_in st w
      unfolding trailer_in
      trailer-bad e f = f ∙ rw (ne_eqb (st.present.have - 1) 0 (some-text st len some), lt-leb lines_most st.lines few, e)

      pub trailer-good : (m c l : ℕ) → field_lens w ≡ Some (field_parts m c l) → r ≡ trailer_held st w (kind_of (map lower_of (take m w))) c l → r ≡ trailer_in st w
      unfolding trailer_in
      trailer-good m c l e f = f ∙ rw (ne_eqb (st.present.have - 1) 0 (some-text st len some), lt-leb lines_most st.lines few, e)

-- ---- the request line

pub request-kept : (st : State) (room : List ℕ) (m : ℕ) (x : Target) {o : List ℕ} {c : Control} {p : Present} {k : Notes} {s q r : State}
    → o ≡ target_room room (st.present.from + m) x → c ≡ control_of st.control.scheme (st.present.from + m) x → p ≡ next_present st.present c.end → k ≡ no_notes
    → s ≡ with_control st c → q ≡ in_section s phase.FieldLine p 0 k → r ≡ begins q → Gives (request_held st room m x) r o
unfolding request_held
request-kept st room m x a b c d e f g = record { state = g ∙ rw (f, e, d, c, b); room = a }

module _ (st : State) (room : List ℕ) {n : ℕ} {y : Result RequestLine Refusal} (len : n ≡ st.present.have - 1)
    (e : y ≡ request_lens st.control.scheme (take (st.present.from + n - st.present.from) (drop st.present.from room))) where
  judged : request_lens st.control.scheme (line_text st.present room) ≡ y
  judged = ap (request_lens st.control.scheme) (sym (line-part st.present room n len)) ∙ sym e

  pub request-good : {r : State} {o : List ℕ} (q : RequestLine) → y ≡ Ok q → Gives (request_held st room q.method q.target) r o → Gives (request_in st room) r o
  unfolding request_in
  request-good q h g = rw (judged, h) g

  pub request-bad : {r : State} {o : List ℕ} {k : ℕ} (z : Refusal) → y ≡ Err z → k ≡ refusal_number z → o ≡ room → r ≡ refuse st k st.present.at → Gives (request_in st room) r o
  unfolding request_in
  request-bad z h i q g = rw (judged, h) (record { state = rw i at g; room = q })

-- the target lies in the line, as the judge's view of it says
pub request-size : (st : State) (room : List ℕ) {n : ℕ} {y : Result RequestLine Refusal} (len : n ≡ st.present.have - 1) → head_most ≤ length room → st.present.from + st.present.have < head_most
    → y ≡ request_lens st.control.scheme (take (st.present.from + n - st.present.from) (drop st.present.from room)) → (q : RequestLine) → y ≡ Ok q
    → (q.target.hostlen ≤ q.target.start) × (q.method + 1 + (q.target.start + q.target.len) ≤ st.present.have) × (q.method + 1 + (q.target.host + q.target.hostlen) ≤ st.present.have)
request-size st room {n} {y} len space inside e q h =
    let m : ℕ = q.method in
    let x : Target = q.target in
    let v = request-view st.control.scheme _ m x (sym e ∙ h) in
    let l : length (take (st.present.from + n - st.present.from) (drop st.present.from room)) ≤ n = omega (arith, length-take (st.present.from + n - st.present.from) (drop st.present.from room)) in
    (by v.host, omega (arith, v.size, l, len), omega (arith, v.within, l, len))
  where
    by : {P : Type 0} → (q.target.hostlen ≡ 0) ⊎ (P × (q.target.host + q.target.hostlen ≡ q.target.start)) → q.target.hostlen ≤ q.target.start
    by (inl z) = omega arith
    by (inr z) = omega (arith, z.1)

-- ---- the end of the head

module _ (st : State) (room : List ℕ) where
  pub stands-given : st.control.given ≡ true → true ≡ host_stands st room
  unfolding host_stands
  stands-given e = rw e

  module _ (e : st.control.given ≡ false) where
    pub stands-before : st.control.host < st.control.end → false ≡ host_stands st room
    unfolding host_stands
    stands-before h = rw (e, lt-leb st.control.end st.control.host h)

    module _ (h : st.control.end ≤ st.control.host) where
      pub stands-behind : st.present.from < st.control.host + st.control.hostlen → false ≡ host_stands st room
      unfolding host_stands
      stands-behind k = rw (e, le-leb st.control.end st.control.host h, lt-leb (st.control.host + st.control.hostlen) st.present.from k)

      pub stands_by : {r : Bool} → st.control.host + st.control.hostlen ≤ st.present.from
          → r ≡ is_host (take (st.control.host + st.control.hostlen - st.control.host) (drop st.control.host room)) → r ≡ host_stands st room
      unfolding host_stands
      stands_by k q =
          let z : st.control.host + st.control.hostlen - st.control.host ≡ st.control.hostlen = omega arith in
          q ∙ rw (z, e, le-leb st.control.end st.control.host h, le-leb (st.control.host + st.control.hostlen) st.present.from k)

  stands-inside : host_stands st room ≡ true → st.control.given ≡ false → (st.control.end ≤ st.control.host) × (st.control.host + st.control.hostlen ≤ st.present.from)
  unfolding host_stands
  stands-inside h g =
      let a = into no_true (leb st.control.end st.control.host) _ (rw g at h) in
      let b = into no_true (leb (st.control.host + st.control.hostlen) st.present.from) _ a.1 in
      (leb-true _ _ a.0, leb-true _ _ b.0)

  pub hosted-as : {r : Bool} {hs : Hosts} (x : Hosts) → hs ≡ x → r ≡ hosted_by x st room → r ≡ hosted_by hs st room
  hosted-as x e q = rw e q

  -- a host rule that is kept has a value where the code looks
  pub stood : {r : Bool} (hs : Hosts) → r ≡ hosted_by hs st room → r ≡ true → st.control.given ≡ false
      → (st.control.end ≤ st.control.host) × (st.control.host + st.control.hostlen ≤ st.present.from)
  stood Nothing e h g = absurd (no_true (sym e ∙ h))
  stood (One a n) e h g = stands-inside (sym e ∙ h) g
  stood Several e h g = absurd (no_true (sym e ∙ h))

  module _ {n : ℕ} {t : Tally} (p : n ≡ count_in (entries (kept_part st room)) (entries (kept_part st room)))
      (q : t ≡ record { headers = n; chunks = st.tally.chunks; content = st.tally.content; size = st.tally.size; trailers = st.tally.trailers }) where
    tally-is : t ≡ tally_of st room
    tally-is =
        q ∙ ap (λ (k : ℕ). record { headers = k; chunks = st.tally.chunks; content = st.tally.content; size = st.tally.size; trailers = st.tally.trailers }) p

    pub settled-given : {r : State} → st.control.given ≡ true → r ≡ with_tally st t → Gives (settle st room) r room
    unfolding settle
    settled-given e f = pick_yes st.control.given (given_held st room) (host_held st room) e (record { state = f ∙ ap (with_tally st) tally-is; room = refl })

    pub settled-host : {r s : State} {d : Control} {o : List ℕ} → st.control.given ≡ false → o ≡ splice room st.control.end (take st.control.hostlen (drop st.control.host room))
        → d ≡ host_behind st.control → s ≡ with_control st d → r ≡ with_tally s t → Gives (settle st room) r o
    unfolding settle
    settled-host e a b c f = pick_no st.control.given (given_held st room) (host_held st room) e (record { state = f ∙ ap₂ with_tally (c ∙ ap (with_control st) b) tally-is; room = a })

  module _ (end : ℕ) {y : Result Body Refused} (e : y ≡ body_answer (request_body end st.notes.framing)) where
    pub body-read : {s r : State} {o : List ℕ} (b : Body) → y ≡ Ok b → Gives (settle st room) s o → r ≡ content_from s end b
        → Gives (on_body st room end (body_answer (request_body end st.notes.framing))) r o
    body-read b h g f = rw (← e, h) (record { state = f ∙ ap (λ (x : State). content_from x end b) g.state; room = g.room })

    pub body_refused : {r : State} (x : Refused) → y ≡ Err x → r ≡ refuse st x.number x.place → Gives (on_body st room end (body_answer (request_body end st.notes.framing))) r room
    body_refused x h f = rw (← e, h) (record { state = f; room = refl })

  module _ {y : Bool} (e : y ≡ hosted_by st.notes.hosts st room) where
    pub head-hosted : {r : State} {o : List ℕ} → y ≡ true
        → Gives (on_body st room (st.present.at + 2) (body_answer (request_body (st.present.at + 2) st.notes.framing))) r o → Gives (head_end st room) r o
    unfolding head_end
    head-hosted h g = rw (← e, h) g

    pub head-unhosted : {r : State} → y ≡ false → r ≡ refuse st bad_host (st.present.at + 2) → Gives (head_end st room) r room
    unfolding head_end
    head-unhosted h g = rw (← e, h) (record { state = g; room = refl })

module _ (st : State) (end : ℕ) {b : Body} {r : State} where
  pub content-none : (n : ℕ) → b ≡ Sized n → n ≡ 0 → r ≡ finish st end st.tally → r ≡ content_from st end b
  content-none n e h f = f ∙ rw (e, eq-eqb n 0 h)

  pub content-some : (n : ℕ) {l : Present} → b ≡ Sized n → (n ≡ 0 → ⊥) → l ≡ fresh end n st.control.end → r ≡ reading st phase.Content l → r ≡ content_from st end b
  content-some n e h p f = f ∙ rw (p, e, ne_eqb n 0 h)

  pub content-chunks : {l : Present} → b ≡ InChunks → l ≡ fresh end chunk_line_most st.control.end → r ≡ reading st phase.ChunkLine l → r ≡ content_from st end b
  content-chunks e p f = f ∙ rw (p, e)

pub content-open : (st : State) (end : ℕ) {b : Body} → b ≡ UntilClosed → st ≡ content_from st end b
content-open st end e = rw e

-- ---- field lines of the head

module _ (c : Control) (h n : ℕ) where
  pub host-given : c.given ≡ true → c ≡ host_from c h n
  unfolding host_from
  host-given e = rw e

  pub host-new : {d : Control} → c.given ≡ false → d ≡ record { scheme = c.scheme; given = c.given; method = c.method; host = h; hostlen = n; path = c.path; pathlen = c.pathlen; prefix = c.prefix; end = c.end } → d ≡ host_from c h n
  unfolding host_from
  host-new e f = f ∙ rw e

  pub host-not : {k : Kind} (x : Kind) → k ≡ x → c ≡ host_at x c h n → c ≡ host_at k c h n
  host-not x e f = rw e f

  pub host-is : {k : Kind} {d : Control} → k ≡ kind.Host → d ≡ host_from c h n → d ≡ host_at k c h n
  host-is e f = rw e f

pub field-line : (st : State) (k : Kind) (n : Notes) (l e : ℕ) {c : Control} {p : Present} {s q r : State} → c ≡ host_at k st.control (st.present.from + 1) l
    → p ≡ next_present st.present e → s ≡ with_control st c → q ≡ in_section s st.phase p (st.lines + 1) n → r ≡ begins q → r ≡ field_noted st k n l e
unfolding field_noted
field-line st k n l e a b c d f = f ∙ rw (d, c, b, a)

module _ (st : State) (room : List ℕ) (m c l : ℕ) {k : Kind} {n : Notes} {z : ℕ} {r : State} {o : List ℕ} where
  pub field-kept : k ≡ kind_of (map lower_of (take (st.present.from + m - st.present.from) (drop st.present.from room)))
      → n ≡ note_of true st.notes k st.present.at (st.present.at + c) (take (st.present.from + c + l - (st.present.from + c)) (drop (st.present.from + c) room))
      → (o ≡ splice room st.present.from (kept_text k (take m (drop st.present.from room)) (take l (drop (st.present.from + c) room))))
      × (z ≡ length (kept_text k (take m (drop st.present.from room)) (take l (drop (st.present.from + c) room))))
      → r ≡ field_noted st k n l (st.present.from + z)
      → Gives (field_held st room (kind_of (map lower_of (take m (drop st.present.from room)))) m c l) r o
  unfolding field_held
  field-kept a b d f =
      let x : st.present.from + m - st.present.from ≡ m = omega arith in
      let y : st.present.from + c + l - (st.present.from + c) ≡ l = omega arith in
      let g : k ≡ kind_of (map lower_of (take m (drop st.present.from room))) = a ∙ ap (λ (i : ℕ). kind_of (map lower_of (take i (drop st.present.from room)))) x in
      rw (← g) (record { state = f ∙ rw (b, y, d.1); room = d.0 })

module _ (st : State) (room : List ℕ) {n : ℕ} (len : n ≡ st.present.have - 1) where
  pub field-empty : {r : State} {o : List ℕ} → n ≡ 0 → Gives (head_end st room) r o → Gives (field_in st room) r o
  unfolding field_in
  field-empty e g = rw (eq-eqb (st.present.have - 1) 0 (sym len ∙ e)) g

  module _ (some : n ≡ 0 → ⊥) where
    pub field-many : {r : State} → lines_most ≤ st.lines → r ≡ refuse st too_large st.present.at → Gives (field_in st room) r room
    unfolding field_in
    field-many e f = rw (ne_eqb (st.present.have - 1) 0 (some-text st len some), le-leb lines_most st.lines e) (record { state = f; room = refl })

    module _ (few : st.lines < lines_most) {y : Option FieldLine} (e : y ≡ field_lens (take (st.present.from + n - st.present.from) (drop st.present.from room))) where
      line-judged : field_lens (line_text st.present room) ≡ y
      line-judged = ap field_lens (sym (line-part st.present room n len)) ∙ sym e

      pub field-bad : {r : State} → y ≡ None → r ≡ refuse st bad_syntax st.present.at → Gives (field_in st room) r room
      unfolding field_in
      field-bad h f = rw (ne_eqb (st.present.have - 1) 0 (some-text st len some), lt-leb lines_most st.lines few, line-judged, h) (record { state = f; room = refl })

      pub field-good : {r : State} {o : List ℕ} (m c l : ℕ) → y ≡ Some (field_parts m c l)
          → Gives (field_held st room (kind_of (map lower_of (take m (drop st.present.from room)))) m c l) r o → Gives (field_in st room) r o
      unfolding field_in
      field-good m c l h g = rw (ne_eqb (st.present.have - 1) 0 (some-text st len some), lt-leb lines_most st.lines few, line-judged, h) g

-- name and value lie in the line
pub field-size : (st : State) (room : List ℕ) {n : ℕ} {y : Option FieldLine} → n ≡ st.present.have - 1 → (n ≡ 0 → ⊥)
    → y ≡ field_lens (take (st.present.from + n - st.present.from) (drop st.present.from room)) → (m c l : ℕ) → y ≡ Some (field_parts m c l) → (m < c) × (c + l < st.present.have)
field-size st room {n} len some e m c l h =
    let v = field-within _ m c l (sym e ∙ h) in
    let k : length (take (st.present.from + n - st.present.from) (drop st.present.from room)) ≤ n = omega (arith, length-take (st.present.from + n - st.present.from) (drop st.present.from room)) in
    (v.1, omega (arith, v.2, k, len, some))
