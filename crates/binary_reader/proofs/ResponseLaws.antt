-- A response, behind its heads, as the code reads it.
use Prim.Native.Nat.{ℕ, ◌≤◌}
use native.Mathlib.Omega.{arith}
use mathlib.Core.Path.{◌≡◌, refl, sym, ap, ◌∙◌, subst}
use mathlib.Core.Bool.{Bool, true, false}
use mathlib.Core.List.{List}
use lib.ListN.{length, drop}
use Rattle.std.proofs.Common.{Option, None, Result, Ok, Err}
use Rattle.octets.specs.Refusals.{bad_length, refused_at}
use Rattle.octets.specs.declared.Refused.{Refused}
use Rattle.script.specs.Do.{good, wrong}
use Rattle.messages.specs.Message.{FieldRead, Section, InformationalRead, response_start, is_response, Message}
use Rattle.messages.specs.Control.{ends_at_head}
use Rattle.messages.specs.Names.{kept, kept_trailers, closes}
use Rattle.messages.specs.Meaning.{content_of}
use Rattle.messages.specs.Notes.{body_answer, is_clashing}
use Rattle.messages.specs.Rules.{binary_framing_of, bodyless_rule, may_state, stated_in}
use Rattle.messages.specs.Answers.{informational_in, record_of}
use Rattle.messages.specs.declared.Body.{Body}
use Rattle.messages.specs.declared.Framing.{Framing}
use Rattle.messages.specs.declared.Framing.TheVariants.{Unstated}
use Rattle.messages.specs.Answers.{Outcome}
use Rattle.messages.specs.declared.Record.{Record}
use Rattle.messages.specs.declared.Stop.{Stop}
use Rattle.messages.specs.declared.Told.{Told}
use Rattle.messages.proofs.Lengths.{body-read, body_refused, may-state, may-not-state}
use Rattle.binary.specs.declared.Cursor.{Cursor}
use Rattle.binary.specs.Reader.{Got, got, no, ◌>>=◌}
use Rattle.binary.specs.declared.Form.{Form}
use Rattle.binary.specs.Read.{after_headers, after_final, message_answer}
use Rattle.ranges.specs.Ranges.{Responded}
use Rattle.binary_reader.specs.Heads.{HeadsFacts, HeadsSays, HeadsTaken}
use Rattle.binary_reader.specs.Rest.{RestSays, Rested}
use Rattle.binary_reader.specs.Whole.{MessageSays}
use Rattle.binary_reader.specs.Responses.{FinalSays, FinalJudged, response_counted, FinalRead}
use Rattle.binary_reader.specs.declared.JudgedFinal.{JudgedFinal}
use Rattle.binary_reader.specs.declared.HeadsRead.{HeadsRead}
use Rattle.binary_reader.specs.declared.RestRead.{RestRead}
use Rattle.binary_reader.proofs.HeadLaws.{framing-noted, closing-noted}
use Rattle.binary_reader.proofs.Answered.{message-as, message-no, answered-as, answered-no, with-headers}

-- ---- what a final head states

module _ (t : Told) (form : Form) (is : List InformationalRead) (n : ℕ) (h : Section) (at : Cursor) (l : List ℕ) where
  module _ (b : ends_at_head t n ≡ true) where
    bodyless-no : {k p : ℕ} → bodyless_rule t n h.end (binary_framing_of h.lines) ≡ wrong k p → after_final t form is n h at l ≡ no k p
    unfolding after_final ◌>>=◌
    bodyless-no e = rw (b, e)

    bodyless-on : {x : Body} → bodyless_rule t n h.end (binary_framing_of h.lines) ≡ good x
        → after_final t form is n h at l ≡ after_headers form false (stated_in t n (binary_framing_of h.lines)) (response_start is n) h Unstated at l
    unfolding after_final ◌>>=◌
    bodyless-on e = rw (b, e)

  module _ (b : ends_at_head t n ≡ false) where
    states-no : {k p : ℕ} → may_state h.end (binary_framing_of h.lines) ≡ wrong k p → after_final t form is n h at l ≡ no k p
    unfolding after_final ◌>>=◌
    states-no e = rw (b, e)

    states-on : {f : Framing} → may_state h.end (binary_framing_of h.lines) ≡ good f
        → after_final t form is n h at l ≡ after_headers form true None (response_start is n) h f at l
    unfolding after_final ◌>>=◌
    states-on e = rw (b, e)

-- what a final head states, as the code answers it
abbrev judged-is : Bool → Framing → Option ℕ → Result JudgedFinal Refused
judged-is body f stated = Ok (record { body = body; framing = f; stated = stated })

module _ (t : Told) (n : ℕ) (f : Framing) (end : ℕ) where
  module _ (b : ends_at_head t n ≡ true) where
    pub final-stated : {x : Refused} → body_answer (bodyless_rule t n end f) ≡ Err x → FinalJudged t n f end (Err x)
    final-stated e = record { by = λ form is h at l g q. bodyless-no t form is n h at l b (rw (g, q) (body_refused _ _ _ e)) }

    pub final-bodyless : {x : Body} {k : Option ℕ} → body_answer (bodyless_rule t n end f) ≡ Ok x → k ≡ stated_in t n f
        → FinalJudged t n f end (judged-is false Unstated k)
    final-bodyless {x} {k} e i =
        record {
          by = λ form is h at l g q.
              bodyless-on t form is n h at l b {x = x} (rw (g, q) (body-read _ x e))
              ∙ ap (λ (z : Option ℕ). after_headers form false z (response_start is n) h Unstated at l) (ap (stated_in t n) q ∙ sym i);
        }

  module _ (b : ends_at_head t n ≡ false) where
    pub final-clashes : {x : Refused} → x ≡ refused_at bad_length end → is_clashing f ≡ true → FinalJudged t n f end (Err x)
    final-clashes p c =
        subst (λ (x : Refused). FinalJudged t n f end (Err x)) (sym p) (record { by = λ form is h at l g q. states-no t form is n h at l b (rw (g, q) (may-not-state end f c)) })

    pub final-states : is_clashing f ≡ false → FinalJudged t n f end (judged-is true f None)
    final-states c = record { by = λ form is h at l g q. states-on t form is n h at l b (rw (g, q) (may-state end f c)) }

-- ---- behind the final head

-- where the rest was read
rest-says : (s : List ℕ) (stated : Option ℕ) (is : List InformationalRead) (a : HeadsRead) (lines : List FieldRead) (x : Got Message) (cs cs' ts ts' : List ℕ) {c : RestRead} {r : Record}
    → length is ≡ a.count → length (kept true lines) ≡ a.kept → a.notes.closes ≡ closes lines → r ≡ response_counted stated (length s) a c
    → RestSays s stated (response_start is a.status) lines x cs cs' ts ts' (Ok c) → MessageSays true is lines x cs cs' ts ts' (Ok r)
unfolding record_of
rest-says s stated is a lines (got x e l) cs cs' ts ts' {c} f g y o u =
    let z = u.0 in
    let d : c ≡ record { chunks = length x.chunks; total = length (content_of x.chunks); trailers = length (kept_trailers x.trailers); long = x.long } = cc in
    (ap (λ (z : Record). Ok z) (o ∙ rw (d, u.3, u.4, u.5, u.6, f, g, y) refl), u.1, u.2, u.4, ap is_response u.3, ap informational_in u.3)
rest-says s stated is a lines (no i j) cs cs' ts ts' f g y o u = let e : ◌≡◌ {A = ℕ} 0 1 = cc in absurd (omega arith)

-- where it was refused
rest-fails : (s : List ℕ) (stated : Option ℕ) (is : List InformationalRead) (n : ℕ) (lines : List FieldRead) (x : Got Message) (cs cs' ts ts' : List ℕ) (e : Refused)
    → RestSays s stated (response_start is n) lines x cs cs' ts ts' (Err e) → MessageSays true is lines x cs cs' ts ts' (Err (Stop.Refused e))
rest-fails s stated is n lines (got x e l) cs cs' ts ts' f u = let d = u.0 in let z : ◌≡◌ {A = ℕ} 0 1 = cc in absurd (omega arith)
rest-fails s stated is n lines (no i j) cs cs' ts ts' e u = let z : e ≡ refused_at i j = cc in ap (λ (f : Refused). Err (Stop.Refused f)) z

module _ (t : Told) (s : List ℕ) (form : Form) (a : HeadsRead) {r : Result JudgedFinal Refused} (j : FinalJudged t a.status a.notes.framing a.end.at r) where
  said : {o : Result JudgedFinal Refused} → r ≡ o → (is : List InformationalRead) (h : Section) → HeadsFacts s is h a
      → FinalSays t form is a.status h a.end (drop a.end.at s) o
  said q is h f =
      subst (λ (o : Result JudgedFinal Refused). FinalSays t form is a.status h a.end (drop a.end.at s) o) q
      (j.by form is h a.end (drop a.end.at s) f.end (sym (framing-noted a.notes h f.noted)))

  pub final-refused : {x : Refused} {cs cs' ts ts' : List ℕ} → r ≡ Err x → FinalRead t s form a cs cs' ts ts' (Err (Stop.Refused x))
  final-refused q = record { by = λ is h f. message-no (said q is h f) }

  module _ {d : JudgedFinal} (q : r ≡ Ok d) {cs cs' ts ts' : List ℕ} {c : Result RestRead Refused} (w : Rested s a.end form d.body d.framing cs cs' ts ts' c) where
    rests : {z : Result RestRead Refused} → c ≡ z → (is : List InformationalRead) (h : Section)
        → RestSays s d.stated (response_start is a.status) h.lines (after_headers form d.body d.stated (response_start is a.status) h d.framing a.end (drop a.end.at s)) cs cs' ts ts' z
    rests g is h =
        subst
        (λ (z : Result RestRead Refused).
        RestSays s d.stated (response_start is a.status) h.lines (after_headers form d.body d.stated (response_start is a.status) h d.framing a.end (drop a.end.at s)) cs cs' ts ts' z) g
        (w.by d.stated (response_start is a.status) h).says

    pub final-bad : {x : Refused} → c ≡ Err x → FinalRead t s form a cs cs' ts ts' (Err (Stop.Refused x))
    final-bad {x} g =
        record {
          by = λ is h f.
              message-as (said q is h f)
              (record {
                says = rest-fails s d.stated is a.status h.lines (after_headers form d.body d.stated (response_start is a.status) h d.framing a.end (drop a.end.at s)) cs cs' ts ts' x
                    (rests g is h);
              });
        }

    pub final-read : {x : RestRead} {o : Record} → c ≡ Ok x → o ≡ response_counted d.stated (length s) a x → FinalRead t s form a cs cs' ts ts' (Ok o)
    final-read g u =
        record {
          by = λ is h f.
              message-as (said q is h f)
              (record {
                says = rest-says s d.stated is a h.lines (after_headers form d.body d.stated (response_start is a.status) h d.framing a.end (drop a.end.at s)) cs cs' ts ts'
                    f.heads f.fields (closing-noted a.notes h f.noted) u (rests g is h);
              });
        }

-- ---- the whole

module _ {x : Told → Got Message} {form : Form} {s hs hs' ns ns' : List ℕ} {r : Result HeadsRead Refused} (w : HeadsTaken x form s hs hs' ns ns' r) where
  taken : {o : Result HeadsRead Refused} → r ≡ o → HeadsSays x form s hs hs' ns ns' o
  taken q = subst (λ (z : Result HeadsRead Refused). HeadsSays x form s hs hs' ns ns' z) q w.says

  pub responded-no : (t : Told) {cs cs' ts ts' : List ℕ} {e : Refused} → r ≡ Err e → Responded (message_answer (x t)) hs hs' ns ns' cs cs' ts ts' (Err (Stop.Refused e))
  responded-no t q = answered-no (taken q t)

  module _ {a : HeadsRead} (q : r ≡ Ok a) where
    pub final-within : a.end.at ≤ length s
    final-within = (taken q).2.within

    pub final-few : a.end.long ≤ a.end.at
    final-few = (taken q).2.counted

    pub responded-final : (t : Told) {cs cs' ts ts' : List ℕ} {o : Outcome} → FinalRead t s form a cs cs' ts ts' o → Responded (message_answer (x t)) hs hs' ns ns' cs cs' ts ts' o
    responded-final t f =
        let d = taken q in
        answered-as (d.3 t) (with-headers (after_final t form d.0 a.status d.1 a.end (drop a.end.at s)) d.4 d.5 (f.by d.0 d.1 d.2))
