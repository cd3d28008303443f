-- A request's head, judged by notes, is judged by its lines.
use Rattle.std.proofs.Common.{Option, Some, None, Result, Ok, Err}
use Prim.Native.Nat.{ℕ}
use mathlib.Core.Path.{◌≡◌, refl, sym, ap, ◌∙◌}
use mathlib.Core.List.{List}
use mathlib.Core.Bool.{true}
use lib.ListN.{length}
use Rattle.octets.specs.Refusals.{bad_host, refused_at}
use Rattle.octets.specs.declared.Refused.{Refused}
use Rattle.script.specs.Do.{Piece, piece, good, wrong}
use Rattle.messages.specs.Message.{FieldRead}
use Rattle.messages.specs.Names.{lines_of}
use Rattle.messages.specs.Notes.{notes_of, hosts_from, target_noted, AllLie, body_answer}
use Rattle.messages.specs.Rules.{target_authority, framing_of, request_body}
use Rattle.messages.specs.declared.Body.{Body}
use Rattle.messages.specs.declared.Framing.{Framing}
use Rattle.messages.specs.declared.Kind.TheVariants as kind
use Rattle.messages.specs.declared.Notes.{Notes}
use Rattle.messages.specs.declared.Span.{Span}
use Rattle.messages.proofs.Noting.{notes-hosts, notes-framing}
use Rattle.messages.proofs.Hosting.{target_found, target-wrong}
use Rattle.messages.proofs.Lengths.{body-read, body_refused}
use Rattle.http1_reader.specs.Readers.{HeadJudged, head_answer}

-- the answer by its two parts
pub answer-host : (end : ℕ) {x : Option Span} (y : Result Body Refused) → x ≡ None → Err (refused_at bad_host end) ≡ head_answer end x y
answer-host end y e = rw e refl

pub answer-length : (end : ℕ) {a : Span} {f : Refused} {x : Option Span} {y : Result Body Refused} → x ≡ Some a → y ≡ Err f → Err f ≡ head_answer end x y
answer-length end e g = rw (e, g) refl

pub answer-good : (end : ℕ) {a : Span} {b : Body} {x : Option Span} {y : Result Body Refused} → x ≡ Some a → y ≡ Ok b
    → Ok (record { authority = a; body = b }) ≡ head_answer end x y
answer-good end e g = rw (e, g) refl

module _ (s : List ℕ) (end : ℕ) (notes : Notes) (lines : List FieldRead) (e : notes ≡ notes_of true lines) (lie : AllLie s lines)
    (q : Piece) {host : Span} (at : q.place ≡ host.start) (many : length q.text ≡ host.len) where
  hosts-are : notes.hosts ≡ hosts_from (lines_of kind.Host lines)
  hosts-are = ap (λ (n : Notes). n.hosts) e ∙ notes-hosts true lines

  framing-is : notes.framing ≡ framing_of lines
  framing-is = ap (λ (n : Notes). n.framing) e ∙ notes-framing lines

  noted : target_noted s q.place (length q.text) (hosts_from (lines_of kind.Host lines)) ≡ target_noted s host.start host.len notes.hosts
  noted = rw (at, many, hosts-are)

  pub judged-host : target_noted s host.start host.len notes.hosts ≡ None
      → HeadJudged (target_authority end q lines) (request_body end (framing_of lines)) (Err (refused_at bad_host end))
  judged-host w =
      let g : target_authority end q lines ≡ wrong bad_host end = target-wrong s lines lie q end (noted ∙ w) in
      record { says = rw g refl }

  module _ {a : Span} (w : target_noted s host.start host.len notes.hosts ≡ Some a) where
    found : (x : List ℕ) × (target_authority end q lines ≡ good (piece a.start x)) × (length x ≡ a.len)
    found = target_found s lines lie q end a.start a.len (noted ∙ w)

    pub judged-length : {f : Refused} → body_answer (request_body end notes.framing) ≡ Err f
        → HeadJudged (target_authority end q lines) (request_body end (framing_of lines)) (Err f)
    judged-length {f} q =
        let g : request_body end (framing_of lines) ≡ wrong f.number f.place = body_refused _ f.number f.place (ap (λ (f : Framing). body_answer (request_body end f)) (sym framing-is) ∙ q) in
        let h = found in
        record { says = rw (h.1, g) refl }

    pub judged-good : {b : Body} → body_answer (request_body end notes.framing) ≡ Ok b
        → HeadJudged (target_authority end q lines) (request_body end (framing_of lines)) (Ok (record { authority = a; body = b }))
    judged-good {b} q =
        let g : request_body end (framing_of lines) ≡ good b = body-read _ b (ap (λ (f : Framing). body_answer (request_body end f)) (sym framing-is) ∙ q) in
        let h = found in
        record { says = rw (h.1, g, h.2) refl }
