-- The first field of a name by the numbers of its entry, and the answer from a reader's outcome.
use Prim.Native.Nat.{ℕ, ◌+◌, ◌-◌, ◌*◌, ◌<◌, ◌≤◌}
use mathlib.Core.Path.{◌≡◌, refl, sym, ap, ◌∙◌}
use mathlib.Core.Bool.{Bool, true, false, cond}
use mathlib.Core.List.{List, [], ◌∷◌, map}
use native.Mathlib.Nat.{add-sub_cancel_left}
use native.Mathlib.Omega.{arith}
use lib.ListN.{length, get_or, take, drop}
use Rattle.octets.specs.Text.{lower_of, same_text}
use Rattle.script.specs.Script.{Answer, accepted, refused, more}
use Rattle.script.specs.Do.{Piece}
use Rattle.script.proofs.Places.{lies_in}
use Rattle.output.proofs.Laws.{elements-take, elements-length}
use Rattle.messages.specs.Message.{FieldRead, Start, request_start, response_start, is_response, Message}
use Rattle.messages.specs.declared.Told.{Told}
use Rattle.messages.specs.Names.{kept}
use Rattle.messages.specs.Answers.{record_from, record_of, informational_in}
use Rattle.messages.specs.declared.Record.{Record}
use Rattle.messages.specs.Answers.{Outcome}
use Rattle.std.proofs.Common.{Ok, Err}
use Rattle.messages.specs.declared.Stop.{Stop}
use Rattle.sound.specs.Placed.{Each, OfLine, Lying}
use Rattle.sound.specs.Sound.{Sound}
use Rattle.sound.proofs.Each.{each-kept}
use Rattle.http1_lines.specs.Read.{read_request, read_response}
use Rattle.http1_sound.proofs.Sound.{request-sound, response-sound}
use Rattle.binary.specs.Read.{read_binary}
use Rattle.binary_sound.proofs.Sound.{binary-sound}
use Rattle.ranges.specs.Ranges.{Outcomed, Held}
use Rattle.ranges.specs.Entries.{entry_of, field_in, fields_in, fields_before, EntryWithin}
use Rattle.ranges.proofs.Entries.{FieldsAt, lies-is, fields-are, fields-more, fields-none, held-parts, held-within}
use Rattle.ranges.proofs.Outcomes.{IsHeld, given-refusal, given-more}
use Rattle.turn.specs.Question.{first_of, Question, found_part, lent_number, lent_place, question_of, value_or, request_question, response_question, binary_question}
use Rattle.question.specs.Asking.{Asked, found_of, asked_of, value_part, found_in, OutcomeWithin, asked_from, octets_or, points_to, FoundWithin, Answered}
use Rattle.messages.specs.declared.Span.{Span}
use Rattle.std.proofs.Common.{Option, None, Some}

-- ---- the entries of ranges

module _ (s ranges name : List ℕ) where
  -- the name of an entry, as it is cut out of the source
  pub named : (k : ℕ) {a n : ℕ} → a ≡ get_or ranges (k * 4) 0 → n ≡ get_or ranges (k * 4 + 1) 0 → EntryWithin (length s) ranges k
      → same_text (map lower_of (take (a + n - a) (drop a s))) name ≡ same_text (map lower_of (field_in s ranges k).name.text) name
  named k {a} {n} e l w =
      let z : a + n ≤ length s = omega (arith, e, l, w.name) in
      rw (add-sub_cancel_left a n, sym (elements-take 0 s a n z), e, l)

  -- a loop over entries: the name stands in the next, it does not, and none is left
  pub found_here : (k i n : ℕ) → i < n → true ≡ same_text (map lower_of (field_in s ranges (k + i)).name.text) name
      → found_in name s ranges (k + i) (n - i) ≡ Some (value_part ranges (k + i))
  unfolding found_in first_of
  found_here k i n h e = rw (fields-more s ranges k i n h, sym e, elements-length 0 s (get_or ranges ((k + i) * 4 + 2) 0) (get_or ranges ((k + i) * 4 + 3) 0))

  pub found-behind : (k i n : ℕ) → i < n → false ≡ same_text (map lower_of (field_in s ranges (k + i)).name.text) name
      → found_in name s ranges (k + i) (n - i) ≡ found_in name s ranges (k + (i + 1)) (n - (i + 1))
  unfolding found_in first_of
  found-behind k i n h e = rw (fields-more s ranges k i n h, sym e)

  pub found_none : (k i n : ℕ) → n ≤ i → found_in name s ranges (k + i) (n - i) ≡ None
  unfolding found_in first_of
  found_none k i n h = rw (fields-none s ranges (k + i) i n h)

  pub found_all : (k n : ℕ) → found_in name s ranges (k + 0) (n - 0) ≡ found_in name s ranges k n
  found_all k n = let a : k + 0 ≡ k = omega arith in let b : n - 0 ≡ n = omega arith in rw (a, b)

-- ---- whole messages

-- the answer from an outcome that is known, and from the first field of the name
pub asked-when : (name s hs ns : List ℕ) {o p : Outcome} → o ≡ p → asked_from name s p hs ns ≡ asked_from name s o hs ns
asked-when name s hs ns e = ap (λ (y : Outcome). asked_from name s y hs ns) (sym e)

pub asked-message : (name s hs ns : List ℕ) (r : Record) {o : Outcome} {f : Option Span} {k : ℕ} → o ≡ Ok r → k ≡ fields_before ns r.informational
    → f ≡ found_in name s hs k r.headers → Ok f ≡ asked_from name s o hs ns
asked-message name s hs ns r e q h = rw (e, h, q)

-- the first value does not hang on where lines begin
first_entry : (name : List ℕ) (fs : List FieldRead) → first_of name (map entry_of fs) ≡ first_of name fs
unfolding first_of
first_entry name [] = refl
first_entry name (f ∷ fs) = rw (first_entry name fs)

module _ {s : List ℕ} {n : ℕ} {m : Message} {r : Record} {hs ns cs ts : List ℕ} (h : Held s n m r hs ns cs ts) where
  -- the header fields that the numbers name are those that were read
  held-headers : fields_in s hs (fields_before ns r.informational) r.headers ≡ map entry_of (kept (is_response m.start) m.lines)
  unfolding record_of
  held-headers = rw h.numbers (go m.start (held-parts h).headers)
    where
      go : (x : Start) → FieldsAt s hs (fields_before ns (length (informational_in x))) (kept (is_response x) m.lines)
          → fields_in s hs (fields_before ns (record_from x n m).informational) (record_from x n m).headers ≡ map entry_of (kept (is_response x) m.lines)
      go (request_start a b c d) p = fields-are s hs (fields_before ns 0) (kept false m.lines) p
      go (response_start is c) p = fields-are s hs (fields_before ns (length is)) (kept true m.lines) p

module _ {x : Answer Message} {o : Outcome} (s : List ℕ) {hs ns cs ts : List ℕ} (held : (r : Record) → o ≡ Ok r → IsHeld x s r hs ns cs ts) where
  pub outcome-within : OutcomeWithin s o hs ns
  outcome-within = record {
    message = λ r e.
        let w = held-within (held r e).3 in
        record { heads = w.heads.entries; few = w.heads.few; fields = w.headers };
  }

  -- the answer from the outcome is the question's
  pub asked_is : (name : List ℕ) {hs₀ hs₁ cs₀ cs₁ ts₀ ts₁ : List ℕ} → Outcomed x hs₀ hs₁ cs₀ cs₁ ts₀ ts₁ o
      → asked_from name s o hs ns ≡ asked_of (question_of name (length s) x)
  unfolding asked_of found_in
  asked_is name h = go o refl
    where
      go : (y : Outcome) → o ≡ y → asked_from name s y hs ns ≡ asked_of (question_of name (length s) x)
      go (Ok r) e = rw ((held r e).2, held-headers (held r e).3, first_entry name _)
      go (Err (Stop.Refused r)) e = rw (given-refusal h r.number r.place e)
      go (Err Stop.More) e = rw (given-more h e)

-- ---- an answer as a slice: the part is cut out of s, or the default is given

module _ (s default : List ℕ) (m d : ℕ × ℕ) {f : Option Span} where
  pub cut-part : {w : Span} → f ≡ Some w → w.start + w.len ≤ length s
      → (take (w.start + w.len - w.start) (drop w.start s) ≡ octets_or s default f) × ((m.0, w.start + m.1) ≡ points_to f m d)
  cut-part {w} e h = (rw (e, add-sub_cancel_left w.start w.len) (sym (elements-take 0 s w.start w.len h)), rw e)

  pub cut-nothing : f ≡ None → (default ≡ octets_or s default f) × (d ≡ points_to f m d)
  cut-nothing e = (rw e, rw e)

-- ---- what is found is a part of the message

-- the octets of a part stand at its place in s
abbrev pub LiesIn : List ℕ → Option Piece → Type 0
LiesIn s None = Unit {0}
LiesIn s (Some w) = Lying s w

module _ (s name : List ℕ) where
  first-lies : (fs : List FieldRead) → Each (OfLine (Lying s)) fs → LiesIn s (first_of name fs)
  unfolding first_of
  first-lies [] h = tt
  first-lies (f ∷ fs) h = go (same_text (map lower_of f.name.text) name) (first-lies fs h.1)
    where
      go : (b : Bool) → LiesIn s (first_of name fs) → LiesIn s (cond b (Some f.value) (first_of name fs))
      go true ih = h.0.value
      go false ih = ih

  question-lies : (n : ℕ) (x : Answer Message) → ((k : ℕ) (m : Message) → x ≡ accepted k m → Sound s m) → LiesIn s (found_part (question_of name n x))
  question-lies n (accepted k m) sound =
      first-lies (kept (is_response m.start) m.lines) (each-kept (OfLine (Lying s)) (is_response m.start) m.lines (sound k m refl).placed.lines)
  question-lies n (refused k p) sound = tt
  question-lies n more sound = tt

  pub request-lies : (t : Told) → LiesIn s (found_part (request_question t name s))
  unfolding request_question
  request-lies t = question-lies (length s) (read_request t s) (λ n m e. (request-sound t s n m e).sound)

  pub response-lies : (t : Told) → LiesIn s (found_part (response_question t name s))
  unfolding response_question
  response-lies t = question-lies (length s) (read_response t s) (λ n m e. (response-sound t s n m e).sound)

  pub binary-lies : (t : Told) → LiesIn s (found_part (binary_question t name s))
  unfolding binary_question
  binary-lies t = question-lies (length s) (read_binary t s) (λ n m e. (binary-sound t s n m e).sound)

module _ (s : List ℕ) {a : Asked} (q : Question) (e : a ≡ asked_of q) (l : LiesIn s (found_part q)) where
  parts : (found_part a ≡ found_of (found_part q)) × (lent_number a ≡ lent_number q) × (lent_place a ≡ lent_place q)
  unfolding asked_of
  parts = rw e (go q)
    where
      go : (x : Question) → (found_part (asked_of x) ≡ found_of (found_part x)) × (lent_number (asked_of x) ≡ lent_number x) × (lent_place (asked_of x) ≡ lent_place x)
      go (Ok f) = (refl, refl, refl)
      go (Err k) = (refl, refl, refl)

  pub found_within : FoundWithin s (found_part a)
  found_within = record { part = λ w h. go (found_part q) l w (sym parts.0 ∙ h) }
    where
      go : (f : Option Piece) → LiesIn s f → (w : Span) → found_of f ≡ Some w → w.start + w.len ≤ length s
      go None y w h = let z : ◌≡◌ {A = ℕ} 0 1 = cc in absurd (omega arith)
      go (Some v) y w h =
          let u : v.place ≡ w.start = cc in
          let n : length v.text ≡ w.len = cc in
          omega (arith, lies_in y, u, n)

  pub answered : {default octets : List ℕ} {message-at default-at at : ℕ × ℕ} {n p : ℕ} → octets ≡ octets_or s default (found_part a)
      → at ≡ points_to (found_part a) message-at default-at → n ≡ lent_number a → p ≡ lent_place a → Answered q default message-at default-at octets at n p
  answered {default} v w n p = record {
    value = v ∙ ap (octets_or s default) parts.0 ∙ go (found_part q) l;
    slice = rw parts.0 at w;
    number = n ∙ parts.1;
    place = p ∙ parts.2;
  }
    where
      go : (f : Option Piece) → LiesIn s f → octets_or s default (found_of f) ≡ value_or default f
      go None y = refl
      go (Some z) y = lies-is y
