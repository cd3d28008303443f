-- Answers of whole messages, from what stands behind their heads.
use Prim.Native.Nat.{ℕ}
use mathlib.Core.Path.{◌≡◌, refl, sym, ◌∙◌, subst}
use mathlib.Core.Bool.{Bool}
use mathlib.Core.List.{List, ◌++◌}
use Rattle.output.specs.Splice.{splice}
use Rattle.messages.specs.Message.{FieldRead, InformationalRead, Message}
use Rattle.messages.specs.Names.{kept}
use Rattle.messages.specs.Answers.{fields_numbers, informational_numbers, informational_lines}
use Rattle.messages.specs.Answers.{Outcome}
use Rattle.std.proofs.Common.{Err}
use Rattle.messages.specs.declared.Stop.{Stop}
use Rattle.octets.specs.declared.Refused.{Refused}
use Rattle.script.specs.Script.{Answer}
use Rattle.binary.specs.Reader.{Got, got, no}
use Rattle.binary.specs.Read.{message_answer}
use Rattle.ranges.specs.Ranges.{Stores, Responded}
use Rattle.binary_reader.specs.Whole.{MessageSays, MessageIs}

-- an answer that equals another promises the same
module _ {response : Bool} {is : List InformationalRead} {lines : List FieldRead} {cs cs' ts ts' : List ℕ} where
  pub message-as : {x y : Got Message} {r : Outcome} → x ≡ y → MessageIs response is lines y cs cs' ts ts' r → MessageIs response is lines x cs cs' ts ts' r
  message-as {r = r} e h = subst (λ (z : Got Message). MessageIs response is lines z cs cs' ts ts' r) (sym e) h

  pub message-no : {x : Got Message} {e : Refused} → x ≡ no e.number e.place → MessageIs response is lines x cs cs' ts ts' (Err (Stop.Refused e))
  message-no {e = e} h = message-as {y = no e.number e.place} h (record { says = refl })

module _ {hs hs' ns ns' cs cs' ts ts' : List ℕ} where
  pub answered-as : {x y : Got Message} {r : Outcome} → x ≡ y → Responded (message_answer y) hs hs' ns ns' cs cs' ts ts' r
      → Responded (message_answer x) hs hs' ns ns' cs cs' ts ts' r
  answered-as {r = r} e h = subst (λ (z : Got Message). Responded (message_answer z) hs hs' ns ns' cs cs' ts ts' r) (sym e) h

  pub answered-no : {x : Got Message} {e : Refused} → x ≡ no e.number e.place → Responded (message_answer x) hs hs' ns ns' cs cs' ts ts' (Err (Stop.Refused e))
  answered-no {e = e} h = answered-as {y = no e.number e.place} h (record { says = refl; informational = tt })

  -- a refusal that equals another promises the same
  pub refused-as : {x : Answer Message} {e f : Refused} → e ≡ f → Responded x hs hs' ns ns' cs cs' ts ts' (Err (Stop.Refused f))
      → Responded x hs hs' ns ns' cs cs' ts ts' (Err (Stop.Refused e))
  refused-as {x = x} q h = subst (λ (z : Refused). Responded x hs hs' ns ns' cs cs' ts ts' (Err (Stop.Refused z))) (sym q) h

  -- with the ranges of the heads that stand already
  pub with-headers : {response : Bool} {is : List InformationalRead} {lines : List FieldRead} {r : Outcome} (x : Got Message)
      → Stores hs 0 (fields_numbers (informational_lines is ++ kept response lines)) hs' → ns' ≡ splice ns 0 (informational_numbers is)
      → MessageIs response is lines x cs cs' ts ts' r → Responded (message_answer x) hs hs' ns ns' cs cs' ts ts' r
  with-headers {response} {is} {lines} {r} x a b h = go x h.says
    where
      go : (y : Got Message) → MessageSays response is lines y cs cs' ts ts' r → Responded (message_answer y) hs hs' ns ns' cs cs' ts ts' r
      go (got m e l) u = record { says = (u.0, rw (u.5, u.4, u.3) a, u.1, u.2); informational = b ∙ rw u.5 refl }
      go (no n p) u = record { says = u; informational = tt }
