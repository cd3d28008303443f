-- One head of a response, as the code reads it.
use Prim.Native.Nat.{ℕ, suc, ◌+◌, ◌<◌, ◌≤◌}
use mathlib.Core.Path.{◌≡◌, refl, sym, ap, ◌∙◌, subst}
use mathlib.Core.List.{List}
use mathlib.Core.Bool.{true, false}
use native.Mathlib.Omega.{arith}
use borrow.Author.Tests.{le-leb, lt-leb, leb-true, leb-false}
use lib.Dec.{leb}
use lib.ListN.{length, drop}
use Rattle.std.proofs.Common.{Some, None, Result, Ok, Err}
use Rattle.ranges.specs.Ranges.{AnyHeads, FewHeads, SoManyHeads}
use Rattle.octets.specs.Limits.{informational_most}
use Rattle.octets.specs.Refusals.{too_large, cut_off, refusal_number, refused_at}
use Rattle.octets.specs.declared.Refusal.{Refusal}
use Rattle.octets.specs.declared.Refused.{Refused}
use Rattle.numbers.specs.Integer.{integer_of, read_int}
use Rattle.script.specs.Do.{good, wrong}
use Rattle.messages.specs.Message.{InformationalRead, Section, Message}
use Rattle.messages.specs.Control.{status_verdict, is_informational, passed}
use Rattle.messages.specs.Names.{closes}
use Rattle.messages.specs.Notes.{notes_of, body_answer}
use Rattle.messages.specs.Rules.{binary_framing_of, nothing_stated}
use Rattle.messages.specs.declared.Body.{Body}
use Rattle.messages.specs.declared.Notes.{Notes}
use Rattle.messages.specs.declared.Told.{Told}
use Rattle.messages.proofs.Noting.{notes-binary, notes-closes}
use Rattle.messages.proofs.Lengths.{body-read, body_refused}
use Rattle.binary.specs.declared.Cursor.{Cursor}
use Rattle.binary.specs.Reader.{Got, no, cursor, ◌>>=◌}
use Rattle.binary.specs.declared.Form.{Form}
use Rattle.binary.specs.Read.{section, header_section, after_final, after_final_status, after_informational, after_informational_status, heads}
use Rattle.binary_parts.specs.Section.{Sectioned}
use Rattle.binary_parts.specs.declared.Section as answer
use Rattle.binary_parts.proofs.Places.{integer-cut, integer-got}
use Rattle.binary_parts.proofs.SectionLines.{section-lines, header-lines}
use Rattle.binary_reader.specs.Heads.{FinalStatus, HeadStored, HeadSays, Headed}
use Rattle.binary_reader.specs.declared.Head.{Head}
use Rattle.binary_reader.specs.declared.Head.TheVariants as head
use Rattle.binary_reader.proofs.SectionOutcomes.{SectionDone, section-no, section-done, behind-no, behind-got}

pub framing-noted : (n : Notes) (h : Section) → n ≡ notes_of false h.lines → n.framing ≡ binary_framing_of h.lines
framing-noted n h e = ap (λ (n : Notes). n.framing) e ∙ notes-binary h.lines

pub closing-noted : (n : Notes) (h : Section) → n ≡ notes_of false h.lines → n.closes ≡ closes h.lines
closing-noted n h e = ap (λ (n : Notes). n.closes) e ∙ notes-closes false h.lines

-- an answer that equals another, whatever is told, says the same
pub says-as : (form : Form) (f : ℕ) (is : List InformationalRead) (s : List ℕ) (base : ℕ) (hs hs' : List ℕ) (r : Result Head Refused) {x y : Told → Got Message}
    → ((t : Told) → x t ≡ y t) → HeadSays y form f is s base hs hs' r → HeadSays x form f is s base hs hs' r
says-as form f is s base hs hs' (Ok (head.Informational n e k)) q u = (u.0, u.1, u.2, λ t. q t ∙ u.3 t)
says-as form f is s base hs hs' (Ok (head.Final n e k notes)) q u = (u.0, u.1, u.2, u.3, λ t. q t ∙ u.4 t)
says-as form f is s base hs hs' (Err e) q u = λ t. q t ∙ u t

-- ---- the section behind a status

module _ (s : List ℕ) {base : ℕ} {hs hs' : List ℕ} where
  head-stored : {x : Got Section} {q : answer.Section} (d : SectionDone s x true true base hs hs' q) → HeadStored s base hs hs' q.end q.kept d.read
  head-stored d = record { end = d.end; within = d.within; few = d.lines.section.few; count = d.count; stored = d.stored; counted = d.counted }

module _ (s : List ℕ) (form : Form) (next : Cursor) (status : ℕ) {base : ℕ} {hs hs' : List ℕ} {r : Result answer.Section Refused}
    (w : Sectioned s (section form next (drop next.at s)) true true base hs hs' r) where
  pub informational-no : {x : Refused} → r ≡ Err x
      → Headed FewHeads (λ f is t. after_informational_status form (heads t form f) is status next (drop next.at s)) form s base hs hs' (Err x)
  unfolding after_informational_status
  informational-no e = record { by = λ f is z t. behind-no (section form) (after_informational (heads t form f) is status) s next (section-no w e) }

  module _ (within : next.at ≤ length s) (few : next.long ≤ next.at) {q : answer.Section} (e : r ≡ Ok q) where
    done : SectionDone s (section form next (drop next.at s)) true true base hs hs' q
    done = section-done w (section-lines form s next within few) e

    judged : (d : SectionDone s (section form next (drop next.at s)) true true base hs hs' q)
        → nothing_stated q.end.at q.notes.framing ≡ nothing_stated d.read.end (binary_framing_of d.read.lines)
    judged d = rw (d.end, framing-noted q.notes d.read d.noted) refl

    pub informational-states : {x : Refused} → body_answer (nothing_stated q.end.at q.notes.framing) ≡ Err x
        → Headed FewHeads (λ f is t. after_informational_status form (heads t form f) is status next (drop next.at s)) form s base hs hs' (Err x)
    unfolding after_informational_status after_informational ◌>>=◌
    informational-states {x} g =
        let z : nothing_stated done.read.end (binary_framing_of done.read.lines) ≡ wrong x.number x.place = sym (judged done) ∙ body_refused _ _ _ g in
        record { by = λ f is few t. behind-got (section form) (after_informational (heads t form f) is status) s next done.gives ∙ rw z }

    pub informational-ends : {b : Body} → body_answer (nothing_stated q.end.at q.notes.framing) ≡ Ok b
        → Headed FewHeads (λ f is t. after_informational_status form (heads t form f) is status next (drop next.at s)) form s base hs hs' (Ok (head.Informational status q.end q.kept))
    unfolding after_informational_status after_informational ◌>>=◌
    informational-ends {b} g =
        let z : nothing_stated done.read.end (binary_framing_of done.read.lines) ≡ good b = sym (judged done) ∙ body-read _ b g in
        record { by = λ f is few. (done.read, head-stored s done, few, λ t. behind-got (section form) (after_informational (heads t form f) is status) s next done.gives ∙ rw z) }

module _ (s : List ℕ) (form : Form) (next : Cursor) (status : ℕ) {base : ℕ} {hs hs' : List ℕ} {r : Result answer.Section Refused}
    (w : Sectioned s (header_section form next (drop next.at s)) true true base hs hs' r) where
  pub final-no : {x : Refused} → r ≡ Err x
      → Headed AnyHeads (λ f is t. after_final_status t form is status next (drop next.at s)) form s base hs hs' (Err x)
  unfolding after_final_status
  final-no e = record { by = λ f is z t. behind-no (header_section form) (after_final t form is status) s next (section-no w e) }

  pub final-ends : next.at ≤ length s → next.long ≤ next.at → {q : answer.Section} → r ≡ Ok q → FinalStatus status
      → Headed AnyHeads (λ f is t. after_final_status t form is status next (drop next.at s)) form s base hs hs' (Ok (head.Final status q.end q.kept q.notes))
  unfolding after_final_status
  final-ends within few e u =
      let d = section-done w (header-lines form s next within few) e in
      record { by = λ f is z. (d.read, head-stored s d, d.noted, u, λ t. behind-got (header_section form) (after_final t form is status) s next d.gives) }

-- ---- the status

module _ (s : List ℕ) (form : Form) (i : Cursor) (f : ℕ) (is : List InformationalRead) (t : Told) where
  status-cut : read_int i.at (drop i.at s) ≡ None → heads t form (suc f) is i (drop i.at s) ≡ no cut_off i.at
  unfolding heads ◌>>=◌
  status-cut e = rw (integer-cut s i cut_off i.at e)

  module _ {n next l : ℕ} (e : read_int i.at (drop i.at s) ≡ Some (integer_of n next l)) where
    status-wrong : {v : Refusal} → status_verdict n ≡ Err v → heads t form (suc f) is i (drop i.at s) ≡ no (refusal_number v) i.at
    unfolding heads ◌>>=◌
    status-wrong z = rw (integer-got s i cut_off i.at e, z)

    module _ (z : status_verdict n ≡ passed) where
      status-full : is_informational n ≡ true → informational_most ≤ length is → heads t form (suc f) is i (drop i.at s) ≡ no too_large i.at
      unfolding heads ◌>>=◌
      status-full b g = rw (integer-got s i cut_off i.at e, z, b, le-leb _ _ g)

      status-informational : is_informational n ≡ true → length is < informational_most
          → heads t form (suc f) is i (drop i.at s) ≡ after_informational_status form (heads t form f) is n (cursor next (i.long + l)) (drop next s)
      unfolding heads ◌>>=◌
      status-informational b g = rw (integer-got s i cut_off i.at e, z, b, lt-leb _ _ g)

      status-final : is_informational n ≡ false → heads t form (suc f) is i (drop i.at s) ≡ after_final_status t form is n (cursor next (i.long + l)) (drop next s)
      unfolding heads ◌>>=◌
      status-final b = rw (integer-got s i cut_off i.at e, z, b)

-- a refusal, where the reader answers the same whatever is told
headed-no : {P : List InformationalRead → Type 0} {x : ℕ → List InformationalRead → Told → Got Message} {form : Form} {s : List ℕ} {base n p : ℕ} {hs hs' : List ℕ} {e : Refused}
    → e ≡ refused_at n p → ((f : ℕ) (is : List InformationalRead) → P is → (t : Told) → x f is t ≡ no n p) → Headed P x form s base hs hs' (Err e)
headed-no {P} {x} {form} {s} {base} {hs = hs} {hs' = hs'} q h = subst (λ (z : Refused). Headed P x form s base hs hs' (Err z)) (sym q) (record { by = h })

module _ (s : List ℕ) (form : Form) (i : Cursor) (count base : ℕ) (hs hs' : List ℕ) where
  pub next-cut : {x : Refused} → x ≡ refused_at cut_off i.at → read_int i.at (drop i.at s) ≡ None
      → Headed (SoManyHeads count) (λ f is t. heads t form (suc f) is i (drop i.at s)) form s base hs hs' (Err x)
  next-cut q e = headed-no q (λ f is z t. status-cut s form i f is t e)

  module _ {n next l : ℕ} (e : read_int i.at (drop i.at s) ≡ Some (integer_of n next l)) where
    pub next-wrong : {v : Refusal} {x : Refused} → x ≡ refused_at (refusal_number v) i.at → status_verdict n ≡ Err v
        → Headed (SoManyHeads count) (λ f is t. heads t form (suc f) is i (drop i.at s)) form s base hs hs' (Err x)
    next-wrong q z = headed-no q (λ f is c t. status-wrong s form i f is t e z)

    module _ (z : status_verdict n ≡ passed) where
      pub next-full : {x : Refused} → x ≡ refused_at too_large i.at → is_informational n ≡ true → leb (count + 1) informational_most ≡ false
          → Headed (SoManyHeads count) (λ f is t. heads t form (suc f) is i (drop i.at s)) form s base hs hs' (Err x)
      next-full q b g = headed-no q (λ f is c t. status-full s form i f is t e z b (omega (arith, leb-false (count + 1) informational_most g, c)))

      module _ {r : Result Head Refused} where
        pub next-informational : is_informational n ≡ true → leb (count + 1) informational_most ≡ true
            → Headed FewHeads (λ f is t. after_informational_status form (heads t form f) is n (cursor next (i.long + l)) (drop next s)) form s base hs hs' r
            → Headed (SoManyHeads count) (λ f is t. heads t form (suc f) is i (drop i.at s)) form s base hs hs' r
        next-informational b g h =
            record {
              by = λ f is c.
                  let few : length is < informational_most = omega (arith, leb-true (count + 1) informational_most g, c) in
                  says-as form f is s base hs hs' r (λ t. status-informational s form i f is t e z b few) (h.by f is few);
            }

        pub next-final : is_informational n ≡ false → Headed AnyHeads (λ f is t. after_final_status t form is n (cursor next (i.long + l)) (drop next s)) form s base hs hs' r
            → Headed (SoManyHeads count) (λ f is t. heads t form (suc f) is i (drop i.at s)) form s base hs hs' r
        next-final b h =
            record { by = λ f is c. says-as form f is s base hs hs' r (λ t. status-final s form i f is t e z b) (h.by f is tt) }
