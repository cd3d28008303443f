-- One head of a response, as the code reads it.
use Rattle.std.proofs.Common.{Result, Ok, Err}
use Prim.Native.Nat.{ℕ, ◌+◌, ◌-◌, ◌<◌, ◌≤◌}
use mathlib.Core.Path.{◌≡◌, refl, sym, ap, ◌∙◌}
use mathlib.Core.List.{List}
use mathlib.Core.Bool.{true, false}
use native.Mathlib.Omega.{arith}
use lib.ListN.{length, take, drop, length-drop}
use lib.Seq.{length-take-le}
use borrow.Author.Tests.{le-leb, lt-leb}
use Rattle.ranges.specs.Ranges.{AnyHeads, FewHeads, SoManyHeads}
use Rattle.octets.specs.Limits.{head_most, informational_most}
use Rattle.octets.specs.Refusals.{too_large, refusal_number, refused_at}
use Rattle.octets.specs.declared.Refusal.{Refusal}
use Rattle.octets.specs.declared.Refused.{Refused}
use Rattle.script.specs.Script.{Answer, accepted, refused, Script, run, line_of}
use Rattle.script.specs.Do.{◌>>=◌, good, wrong}
use Rattle.script.specs.declared.Line.TheVariants.{Ends}
use Rattle.script.proofs.Laws.{run-stop}
use Rattle.script.proofs.Places.{line-ends, line-within}
use Rattle.messages.specs.Message.{InformationalRead, Message}
use Rattle.messages.specs.Control.{is_informational}
use Rattle.messages.specs.Notes.{notes_of, body_answer}
use Rattle.messages.specs.Rules.{framing_of, nothing_stated}
use Rattle.messages.specs.declared.Body.{Body}
use Rattle.messages.specs.declared.Notes.{Notes}
use Rattle.messages.specs.declared.Stop.{Stop}
use Rattle.messages.proofs.Noting.{notes-framing}
use Rattle.messages.proofs.Lengths.{body-read, body_refused}
use Rattle.http1_lines.specs.Lines.{status_lens, status_of}
use Rattle.http1_lines.specs.Read.{Lines, section, after_informational, after_informational_line, BehindHeads, after_final_line, next_head}
use Rattle.http1_parts.specs.Stops.{stopped, line_ended}
use Rattle.http1_parts.specs.Section.{Sectioned}
use Rattle.http1_parts.specs.declared.Section.{Section}
use Rattle.http1_parts.proofs.Stops.{line-stopped}
use Rattle.http1_parts.proofs.Outcomes.{lines_with, section-stopped, section-done, behind-stopped, behind-done}
use Rattle.http1_reader.proofs.Facts.{section-facts}
use Rattle.http1_reader.specs.Responses.{Onward, HeadStored, HeadSays, Headed}
use Rattle.http1_reader.specs.declared.HeadRead.{HeadRead}
use Rattle.http1_reader.specs.declared.HeadRead.TheVariants as head

pub framing-noted : (n : Notes) (h : Lines) → n ≡ notes_of true h.lines → n.framing ≡ framing_of h.lines
framing-noted n h e = ap (λ (n : Notes). n.framing) e ∙ notes-framing h.lines

-- ---- the section behind a status line

-- a section that was read, and its lines
record SectionEnds (s : List ℕ) (next left base : ℕ) (hs hs' : List ℕ) (r : Section) : Type 0 where
  pub lines : Lines
  pub accepts : run (section left) next (drop next s) ≡ accepted r.end lines
  pub stored : HeadStored s base hs hs' r.end r.kept lines
  pub rest : lines.left ≡ r.left
  pub noted : r.notes ≡ notes_of true lines.lines

module _ (s : List ℕ) (next left base : ℕ) {hs hs' : List ℕ} where
  pub headed-stopped : (P : List InformationalRead → Type 0) (k : List InformationalRead → Onward → BehindHeads → Lines → Script Message) {e : Stop}
      → Sectioned (run (section left) next (drop next s)) true true base hs hs' (Err e)
      → Headed P (λ is u v. run (section left >>= k is u v) next (drop next s)) s base hs hs' (Err e)
  headed-stopped P k {e} w = record { by = λ is z u v. behind-stopped left (k is u v) s next e (section-stopped w) }

  module _ (within : next ≤ length s) (total : next + left ≡ head_most) {r : Section} (w : Sectioned (run (section left) next (drop next s)) true true base hs hs' (Ok r)) where
    section-ends : SectionEnds s next left base hs hs' r
    section-ends =
        let d = section-done w in
        let h : Lines = lines_with d.lines r.end r.left in
        let f = section-facts s next left d.place h within d.taken in
        let z : d.place ≡ r.end = sym f.ended.end in
        record {
          lines = h;
          accepts = d.taken ∙ ap (λ (i : ℕ). accepted i h) z;
          stored =
              record {
                end = refl;
                left = omega (arith, f.ended.left, z, total);
                within = omega (arith, f.within, z);
                few = f.few;
                count = sym d.counted;
                stored = d.stored;
              };
          rest = refl;
          noted = d.noted;
        }

    pub final-ends : (status : ℕ) → Headed AnyHeads (λ is u v. run (after_final_line v is status left) next (drop next s)) s base hs hs' (Ok (head.Final status r.end r.kept r.notes))
    final-ends status =
        let d = section-ends in
        record { by = λ is z. (d.lines, d.stored, d.noted, λ u v. behind-done left (v is status) s next r.end d.lines d.accepts) }

    module _ (status : ℕ) where
      judged : (d : SectionEnds s next left base hs hs' r) → nothing_stated r.end r.notes.framing ≡ nothing_stated d.lines.end (framing_of d.lines.lines)
      judged d = rw (d.stored.end, framing-noted r.notes d.lines d.noted) refl

      pub informational-states : {x : Refused} → Err x ≡ body_answer (nothing_stated r.end r.notes.framing)
          → Headed FewHeads (λ is u v. run (after_informational_line u is status left) next (drop next s)) s base hs hs' (Err (Stop.Refused x))
      unfolding ◌>>=◌
      informational-states {x} g =
          let d = section-ends in
          let z : nothing_stated d.lines.end (framing_of d.lines.lines) ≡ wrong x.number x.place = sym (judged d) ∙ body_refused _ x.number x.place (sym g) in
          record {
            by = λ is few u v.
                behind-done left (after_informational u is status) s next r.end d.lines d.accepts ∙ rw z (run-stop x.number x.place r.end (drop r.end s));
          }

      pub informational-ends : {b : Body} → Ok b ≡ body_answer (nothing_stated r.end r.notes.framing)
          → Headed FewHeads (λ is u v. run (after_informational_line u is status left) next (drop next s)) s base hs hs' (Ok (head.Informational status r.end r.left r.kept))
      unfolding ◌>>=◌
      informational-ends {b} g =
          let d = section-ends in
          let z : nothing_stated d.lines.end (framing_of d.lines.lines) ≡ good b = sym (judged d) ∙ body-read _ b (sym g) in
          record {
            by = λ is few.
                (d.lines, d.stored, d.rest, few, λ u v. behind-done left (after_informational u is status) s next r.end d.lines d.accepts ∙ rw (z, d.rest) refl);
          }

-- ---- the status line

module _ (s : List ℕ) (i left : ℕ) (is : List InformationalRead) (u : Onward) (v : BehindHeads) where
  heads-stopped : {e : Stop} → Err e ≡ line_ended i (line_of (drop i s) left i 0) → run (next_head u v is left) i (drop i s) ≡ stopped e
  unfolding ◌>>=◌
  heads-stopped e = line-stopped _ _ s i e

  module _ (next : ℕ) (e : line_of (drop i s) left i 0 ≡ Ends next) where
    heads-wrong : (r : Refusal) → status_lens (take (next - 2 - i) (drop i s)) ≡ Err r → run (next_head u v is left) i (drop i s) ≡ refused (refusal_number r) i
    unfolding status_of ◌>>=◌
    heads-wrong r q = line-ends _ _ _ _ s i next e ∙ rw (q, run-stop)

    module _ (within : i ≤ length s) (n : ℕ) (q : status_lens (take (next - 2 - i) (drop i s)) ≡ Ok n) where
      less-is : left - (length (take (next - 2 - i) (drop i s)) + 2) ≡ left - (next - i)
      less-is =
          let w = line-within s left i next within e in
          omega (arith, w, length-take-le (next - 2 - i) (drop i s) (omega (arith, w, length-drop i s)))

      heads-full : is_informational n ≡ true → informational_most ≤ length is → run (next_head u v is left) i (drop i s) ≡ refused too_large i
      unfolding status_of ◌>>=◌
      heads-full b g = line-ends _ _ _ _ s i next e ∙ rw (q, b, le-leb _ _ g, run-stop)

      heads-informational : is_informational n ≡ true → length is < informational_most
          → run (next_head u v is left) i (drop i s) ≡ run (after_informational_line u is n (left - (next - i))) next (drop next s)
      unfolding status_of ◌>>=◌
      heads-informational b g = line-ends _ _ _ _ s i next e ∙ rw (q, b, lt-leb _ _ g, less-is) refl

      heads-final : is_informational n ≡ false → run (next_head u v is left) i (drop i s) ≡ run (after_final_line v is n (left - (next - i))) next (drop next s)
      unfolding status_of ◌>>=◌
      heads-final b = line-ends _ _ _ _ s i next e ∙ rw (q, b, less-is) refl

-- two scripts that answer alike say the same
says_same : {x y : Onward → BehindHeads → Answer Message} (is : List InformationalRead) (s : List ℕ) (base : ℕ) (hs hs' : List ℕ) (r : Result HeadRead Stop) → ((u : Onward) (v : BehindHeads) → x u v ≡ y u v)
    → HeadSays y is s base hs hs' r → HeadSays x is s base hs hs' r
says_same is s base hs hs' (Ok (head.Informational n e l k)) a d = (d.0, d.1, d.2, d.3, λ u v. a u v ∙ d.4 u v)
says_same is s base hs hs' (Ok (head.Final n e k notes)) a d = (d.0, d.1, d.2, λ u v. a u v ∙ d.3 u v)
says_same is s base hs hs' (Err e) a d = λ u v. a u v ∙ d u v

module _ (s : List ℕ) (i left count base : ℕ) {hs hs' : List ℕ} where
  pub next-stopped : {e : Stop} → Err e ≡ line_ended i (line_of (drop i s) left i 0) → Headed (SoManyHeads count) (λ is u v. run (next_head u v is left) i (drop i s)) s base hs hs' (Err e)
  next-stopped e = record { by = λ is z u v. heads-stopped s i left is u v e }

  module _ {next : ℕ} (e : line_of (drop i s) left i 0 ≡ Ends next) where
    pub next-wrong : {r : Refusal} → status_lens (take (next - 2 - i) (drop i s)) ≡ Err r
        → Headed (SoManyHeads count) (λ is u v. run (next_head u v is left) i (drop i s)) s base hs hs' (Err (Stop.Refused (refused_at (refusal_number r) i)))
    next-wrong {r} q = record { by = λ is z u v. heads-wrong s i left is u v next e r q }

    module _ (within : i ≤ length s) {n : ℕ} (q : status_lens (take (next - 2 - i) (drop i s)) ≡ Ok n) where
      pub next-full : is_informational n ≡ true → informational_most ≤ count
          → Headed (SoManyHeads count) (λ is u v. run (next_head u v is left) i (drop i s)) s base hs hs' (Err (Stop.Refused (refused_at too_large i)))
      next-full b g = record { by = λ is z u v. heads-full s i left is u v next e within n q b (omega (arith, g, z)) }

      module _ {r : Result HeadRead Stop} where
        pub next-informational : is_informational n ≡ true → count < informational_most
            → Headed FewHeads (λ is u v. run (after_informational_line u is n (left - (next - i))) next (drop next s)) s base hs hs' r → Headed (SoManyHeads count) (λ is u v. run (next_head u v is left) i (drop i s)) s base hs hs' r
        next-informational b g h =
            record {
              by = λ is z.
                  says_same is s base hs hs' r (λ u v. heads-informational s i left is u v next e within n q b (omega (arith, g, z))) (h.by is (omega (arith, g, z)));
            }

        pub next-final : is_informational n ≡ false → Headed AnyHeads (λ is u v. run (after_final_line v is n (left - (next - i))) next (drop next s)) s base hs hs' r
            → Headed (SoManyHeads count) (λ is u v. run (next_head u v is left) i (drop i s)) s base hs hs' r
        next-final b h =
            record {
              by = λ is z. says_same is s base hs hs' r (λ u v. heads-final s i left is u v next e within n q b) (h.by is tt);
            }
