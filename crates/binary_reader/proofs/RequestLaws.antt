-- A request, stage by stage, as the code reads it.
use Prim.Native.Nat.{ℕ, ◌+◌, ◌≤◌}
use mathlib.Core.Path.{◌≡◌, refl, sym, ap, ◌∙◌, subst}
use mathlib.Core.Bool.{Bool, true, false}
use mathlib.Core.List.{List, [], ◌∷◌}
use native.Mathlib.Omega.{arith}
use lib.ListN.{length, drop}
use Rattle.std.proofs.Common.{None, Result, Ok, Err}
use Rattle.script.specs.Do.{Piece, piece, Judged, good, wrong}
use Rattle.messages.specs.Message.{FieldRead, Section, Start, request_start, is_response, Message, whole_path}
use Rattle.messages.specs.Names.{kept, kept_trailers, closes}
use Rattle.messages.specs.Meaning.{content_of}
use Rattle.messages.specs.Notes.{AllLie}
use Rattle.messages.specs.Rules.{authority_in, binary_framing_of, may_state}
use Rattle.messages.specs.Answers.{informational_numbers, informational_lines, informational_in, part_at, part_of, record_of}
use Rattle.messages.specs.declared.Framing.{Framing}
use Rattle.messages.specs.Answers.{Outcome}
use Rattle.messages.specs.declared.Record.{Record}
use Rattle.messages.specs.declared.Stop.{Stop}
use Rattle.octets.specs.Refusals.{refused_at}
use Rattle.octets.specs.declared.Refused.{Refused}
use Rattle.binary.specs.declared.Cursor.{Cursor}
use Rattle.binary.specs.Reader.{Got, got, no, Reader, ◌>>=◌, tell}
use Rattle.binary.specs.declared.Form.{Form}
use Rattle.binary.specs.Read.{RequestControl, request_control, header_section, after_headers, after_head, after_control, request_message}
use Rattle.sound.specs.Placed.{Each}
use Rattle.sound.proofs.Parts.{LineAt}
use Rattle.binary_parts.specs.Control.{piece_of, Inside, InsideAll, control_of}
use Rattle.messages.specs.declared.Span.{Span}
use Rattle.binary_parts.proofs.Places.{part_length}
use Rattle.binary_reader.specs.Rest.{RestSays, Rested}
use Rattle.binary_reader.specs.Requests.{both_rules, HeadSays, HeadLies, HeadJudged, part_is, request_counted, HeadFacts, RequestRest, Requested}
use Rattle.binary_parts.specs.declared.ControlRead.{ControlRead}
use Rattle.binary_parts.specs.declared.Section as answer
use Rattle.binary_reader.specs.declared.RestRead.{RestRead}
use Rattle.binary_reader.specs.Whole.{MessageSays}
use Rattle.binary_reader.proofs.HeadLaws.{closing-noted}
use Rattle.binary_reader.proofs.Answered.{message-as, message-no, answered-no, with-headers}
use Rattle.binary_reader.proofs.SectionOutcomes.{SectionDone, behind-no, behind-got}

-- ---- behind the header section

rules-refuse : (k : Piece → Framing → Reader Message) (at : Cursor) (l : List ℕ) (a : Judged Piece) (b : Judged Framing) {n p : ℕ} → both_rules a b ≡ wrong n p
    → (tell a >>= λ x. tell b >>= λ f. k x f) at l ≡ no n p
unfolding ◌>>=◌
rules-refuse k at l (good x) (good f) e = cc
rules-refuse k at l (good x) (wrong m o) e = cc
rules-refuse k at l (wrong m o) b e = cc

head-refuses : (form : Form) (q : RequestControl) (h : Section) (at : Cursor) (l : List ℕ) {n p : ℕ}
    → both_rules (authority_in h.end q.authority h.lines) (may_state h.end (binary_framing_of h.lines)) ≡ wrong n p → after_head form q h at l ≡ no n p
unfolding after_head
head-refuses form q h at l e =
    rules-refuse (λ a f. after_headers form true None (request_start q.method q.scheme a (whole_path q.path)) h f) at l (authority_in h.end q.authority h.lines) (may_state h.end (binary_framing_of h.lines)) e

head-passes : (form : Form) (q : RequestControl) (h : Section) (at : Cursor) (l : List ℕ) {a : Piece} {f : Framing}
    → authority_in h.end q.authority h.lines ≡ good a → may_state h.end (binary_framing_of h.lines) ≡ good f
    → after_head form q h at l ≡ after_headers form true None (request_start q.method q.scheme a (whole_path q.path)) h f at l
unfolding after_head ◌>>=◌
head-passes form q h at l u v = rw (u, v)

part-back : (s : List ℕ) (a : Span) → a.start + a.len ≤ length s → part_of (piece_of s a) ≡ part_is a
part-back s a h = ap (part_at a.start) (part_length s a.start a.len h)

-- where the rest was read
rest-says : (s : List ℕ) (q : ControlRead) (w : List ℕ) (a : Span) (k : ℕ) (closing : Bool) (lines : List FieldRead) (x : Got Message) (cs cs' ts ts' : List ℕ) {c : RestRead} {r : Record}
    → InsideAll s q → length w ≡ a.len → length (kept false lines) ≡ k → closing ≡ closes lines → r ≡ request_counted (length s) q a k closing c
    → RestSays s None (request_start (piece_of s q.method) q.scheme (piece a.start w) (whole_path (piece_of s q.path))) lines x cs cs' ts ts' (Ok c)
    → MessageSays false [] lines x cs cs' ts ts' (Ok r)
unfolding record_of
rest-says s q w a k closing lines (got x e l) cs cs' ts ts' {c} f h i y o u =
    let z = u.0 in
    let d : c ≡ record { chunks = length x.chunks; total = length (content_of x.chunks); trailers = length (kept_trailers x.trailers); long = x.long } = cc in
    (ap (λ (z : Record). Ok z) (o ∙ rw (d, u.3, u.4, u.5, u.6, i, y, part-back s q.method f.0, part-back s q.path f.2, h) refl), u.1, u.2, u.4, ap is_response u.3, ap informational_in u.3)
rest-says s q w a k closing lines (no i j) cs cs' ts ts' f h z y o u = let e : ◌≡◌ {A = ℕ} 0 1 = cc in absurd (omega arith)

-- where it was refused
rest-fails : (s : List ℕ) (start : Start) (lines : List FieldRead) (x : Got Message) (cs cs' ts ts' : List ℕ) (e : Refused) → RestSays s None start lines x cs cs' ts ts' (Err e)
    → MessageSays false [] lines x cs cs' ts ts' (Err (Stop.Refused e))
rest-fails s start lines (got x e l) cs cs' ts ts' f u = let d = u.0 in let z : ◌≡◌ {A = ℕ} 0 1 = cc in absurd (omega arith)
rest-fails s start lines (no i j) cs cs' ts ts' e u = let z : e ≡ refused_at i j = cc in ap (λ (f : Refused). Err (Stop.Refused f)) z

module _ (s : List ℕ) (form : Form) (q : ControlRead) (d : answer.Section) {r : Result Span Refused} (j : HeadJudged s q.authority d.end.at d.notes r) where
  said : {o : Result Span Refused} → r ≡ o → (h : Section) → HeadFacts s h d
      → HeadSays (authority_in h.end (piece_of s q.authority) h.lines) (may_state h.end (binary_framing_of h.lines)) d.notes.framing o
  said {o} e h f =
      let y = j.by h.lines f.noted f.lie in
      subst (λ (i : ℕ). HeadSays (authority_in i (piece_of s q.authority) h.lines) (may_state i (binary_framing_of h.lines)) d.notes.framing o) (sym f.end)
      (subst (λ (x : Result Span Refused). HeadSays (authority_in d.end.at (piece_of s q.authority) h.lines) (may_state d.end.at (binary_framing_of h.lines)) d.notes.framing x) e y)

  pub rest-wrong : {x : Refused} {cs cs' ts ts' : List ℕ} → r ≡ Err x → RequestRest s form (control_of s q) d cs cs' ts ts' (Err (Stop.Refused x))
  rest-wrong e = record { by = λ h f. message-no (head-refuses form (control_of s q) h d.end (drop d.end.at s) (said e h f)) }

  module _ {a : Span} (e : r ≡ Ok a) where
    pub head-lies : Inside s a
    head-lies = subst (λ (x : Result Span Refused). HeadLies s x) e j.lies

    abbrev start : (h : Section) (f : HeadFacts s h d) → Start
    start h f = request_start (piece_of s q.method) q.scheme (piece a.start (said e h f).0) (whole_path (piece_of s q.path))

    on : (h : Section) (f : HeadFacts s h d)
        → after_head form (control_of s q) h d.end (drop d.end.at s) ≡ after_headers form true None (start h f) h d.notes.framing d.end (drop d.end.at s)
    on h f = head-passes form (control_of s q) h d.end (drop d.end.at s) (said e h f).1 (said e h f).3

    module _ {cs cs' ts ts' : List ℕ} {c : Result RestRead Refused} (w : Rested s d.end form true d.notes.framing cs cs' ts ts' c) where
      rests : {z : Result RestRead Refused} → c ≡ z → (h : Section) (f : HeadFacts s h d)
          → RestSays s None (start h f) h.lines (after_headers form true None (start h f) h d.notes.framing d.end (drop d.end.at s)) cs cs' ts ts' z
      rests g h f =
          subst (λ (z : Result RestRead Refused). RestSays s None (start h f) h.lines (after_headers form true None (start h f) h d.notes.framing d.end (drop d.end.at s)) cs cs' ts ts' z) g
          (w.by None (start h f) h).says

      pub rest-bad : {x : Refused} → c ≡ Err x → RequestRest s form (control_of s q) d cs cs' ts ts' (Err (Stop.Refused x))
      rest-bad {x} g =
          record {
            by = λ h f.
                message-as (on h f)
                (record {
                  says = rest-fails s (start h f) h.lines (after_headers form true None (start h f) h d.notes.framing d.end (drop d.end.at s)) cs cs' ts ts' x (rests g h f);
                });
          }

      pub rest-good : {x : RestRead} {o : Record} → c ≡ Ok x → InsideAll s q → o ≡ request_counted (length s) q a d.kept d.notes.closes x
          → RequestRest s form (control_of s q) d cs cs' ts ts' (Ok o)
      rest-good g y u =
          record {
            by = λ h f.
                message-as (on h f)
                (record {
                  says = rest-says s q (said e h f).0 a d.kept d.notes.closes h.lines (after_headers form true None (start h f) h d.notes.framing d.end (drop d.end.at s)) cs cs' ts ts'
                      y (said e h f).2 f.fields (closing-noted d.notes h f.noted) u (rests g h f);
                });
          }

-- ---- behind control data

pub requested-as : {x y : Got Message} {hs hs' cs cs' ts ts' : List ℕ} {r : Outcome} → x ≡ y → Requested y hs hs' cs cs' ts ts' r
    → Requested x hs hs' cs cs' ts ts' r
requested-as {hs = hs} {hs' = hs'} {cs = cs} {cs' = cs'} {ts = ts} {ts' = ts'} {r = r} e h =
    subst (λ (z : Got Message). Requested z hs hs' cs cs' ts ts' r) (sym e) h

requested-no : {x : Got Message} {hs hs' cs cs' ts ts' : List ℕ} {e : Refused} → x ≡ no e.number e.place → Requested x hs hs' cs cs' ts ts' (Err (Stop.Refused e))
requested-no e = record { by = λ ns. answered-no e }

all_lie : (s : List ℕ) (fs : List FieldRead) → Each (LineAt s) fs → AllLie s fs
all_lie s [] h = tt
all_lie s (f ∷ fs) h = (h.0.lies.value, all_lie s fs h.1)

module _ (s : List ℕ) (form : Form) (q : RequestControl) (from : Cursor) where
  pub head-no : {hs hs' cs cs' ts ts' : List ℕ} {e : Refused} → header_section form from (drop from.at s) ≡ no e.number e.place
      → Requested (after_control form q from (drop from.at s)) hs hs' cs cs' ts ts' (Err (Stop.Refused e))
  unfolding after_control
  head-no e = requested-no (behind-no (header_section form) (after_head form q) s from e)

  pub head_done : {hs hs' cs cs' ts ts' : List ℕ} {u : answer.Section} {r : Outcome} → SectionDone s (header_section form from (drop from.at s)) true false 0 hs hs' u
      → RequestRest s form q u cs cs' ts ts' r → Requested (after_control form q from (drop from.at s)) hs hs' cs cs' ts ts' r
  unfolding after_control informational_lines informational_numbers
  head_done {u = u} d w =
      let f : HeadFacts s d.read u = record { end = d.end; fields = omega (arith, d.count); noted = d.noted; lie = all_lie s d.read.lines d.lines.section.lines } in
      requested-as (behind-got (header_section form) (after_head form q) s from d.gives)
      (record { by = λ ns. with-headers (after_head form q d.read u.end (drop u.end.at s)) d.stored refl (w.by d.read f) })

-- ---- whole requests

module _ (s : List ℕ) (form : Form) (from : Cursor) where
  pub control-refused : {hs hs' cs cs' ts ts' : List ℕ} {e : Refused} → request_control from (drop from.at s) ≡ no e.number e.place
      → Requested (request_message form from (drop from.at s)) hs hs' cs cs' ts ts' (Err (Stop.Refused e))
  unfolding request_message ◌>>=◌
  control-refused e = requested-no (rw e)

  pub control-then : {q : RequestControl} {e : Cursor} → request_control from (drop from.at s) ≡ got q e (drop e.at s)
      → request_message form from (drop from.at s) ≡ after_control form q e (drop e.at s)
  unfolding request_message ◌>>=◌
  control-then e = rw e
