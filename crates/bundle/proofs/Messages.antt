-- The verdict on an entry's message, from what the Binary reader and the Binary writer answer.
use Prim.Native.Nat.{ℕ, ◌+◌, ◌≤◌}
use mathlib.Core.Path.{◌≡◌, refl, sym, ap, subst, ◌∙◌}
use mathlib.Core.Bool.{Bool, true, false, cond}
use mathlib.Core.List.{List, ◌++◌}
use native.Mathlib.Omega.{arith}
use borrow.Author.Tests.{le-leb, leb-true}
use lib.Dec.{leb, eqb}
use lib.ListN.{length, take, drop}
use lib.Seq.{take-append_seam}
use Rattle.octets.specs.Text.{same_text}
use Rattle.octets.specs.declared.Refused.{Refused}
use Rattle.octets.specs.Refusals.{more_needed, too_large, no_room, bad_entry, refused_at}
use Rattle.messages.specs.Message.{Start, request_start, response_start, is_response, Message}
use Rattle.messages.specs.Meaning.{Meaning, meaning}
use Rattle.messages.specs.Told.{plain}
use Rattle.messages.specs.declared.Told.{Told}
use Rattle.messages.specs.Answers.{record_from, record_of}
use Rattle.messages.specs.declared.Record.{Record}
use Rattle.messages.specs.Answers.{Outcome}
use Rattle.std.proofs.Common.{Ok, Err}
use Rattle.messages.specs.declared.Stop.{Stop}
use Rattle.binary.specs.Read.{read_binary}
use Rattle.binary_sound.proofs.Sound.{binary-sound}
use Rattle.binary_writer.specs.Write.{binary_of, binary_fits, to_binary}
use Rattle.ranges.specs.Ranges.{Responded, Held}
use Rattle.ranges.proofs.Outcomes.{IsHeld, held, given-refusal, given-more, response-outcomed}
use Rattle.output.specs.Splice.{splice}
use Rattle.output.specs.Reply.{Reply, writes, refuses, written_of, lent_after, Served, Written}
use Rattle.output.proofs.Laws.{splice-is}
use Rattle.bundle.specs.Bundle.{read_message, kind_number, is_written, verdict_on, message_verdict}

-- ---- the form

-- what is replied is a refusal, or octets that are no more than a Binary input
abbrev pub IsSmall : Reply → Type 0
IsSmall (writes bs) = length bs ≤ 65535
IsSmall (refuses k p) = Unit {0}

pub small : (x : Meaning) → IsSmall (to_binary x)
unfolding to_binary binary_fits
small x = go (leb (length (binary_of x)) 65535) refl
  where
    go : (b : Bool) → leb (length (binary_of x)) 65535 ≡ b → IsSmall (cond b (writes (binary_of x)) (refuses too_large 0))
    go true e = leb-true (length (binary_of x)) 65535 e
    go false e = tt

-- where such a reply is served in enough room, a refusal is the reply's own, and octets stand at the front
pub form-refused : (y : Reply) (s : List ℕ) {o o' : List ℕ} {x : Refused} → IsSmall y → 65535 ≤ length o → Served y o o' (Err x) → false ≡ is_written y s
unfolding written_of
form-refused (writes bs) s {o} {o'} {x} h r v =
    let e : leb (length bs) (length o) ≡ true = le-leb (length bs) (length o) (omega (arith, h, r)) in
    let a : Err x ≡ Ok (length bs) = v.answer ∙ rw e in
    let z : ◌≡◌ {A = ℕ} 0 1 = cc in absurd (omega arith)
form-refused (refuses a b) s h r v = refl

-- what is served by n octets
pub record Stand (y : Reply) (o' : List ℕ) (n : ℕ) : Type 0 where
  pub within : n ≤ length o'
  pub front : List ℕ
  pub wrote : y ≡ writes front
  pub size : n ≡ length front
  pub stands : take n o' ≡ front

no-done : {A : Type 0} {n k p : ℕ} → Ok n ≡ Err (refused_at k p) → A
no-done e = let z : ◌≡◌ {A = ℕ} 0 1 = cc in absurd (omega arith)

pub done-stand : (y : Reply) {o o' : List ℕ} {n : ℕ} → Served y o o' (Ok n) → Stand y o' n
unfolding written_of lent_after
done-stand (writes bs) {o} {o'} {n} v = go (leb (length bs) (length o)) refl v.answer v.after
  where
    go : (b : Bool) → leb (length bs) (length o) ≡ b → Ok n ≡ cond b (Ok (length bs)) (Err (refused_at no_room 0)) → o' ≡ cond b (splice o 0 bs) o → Stand (writes bs) o' n
    go true e a w =
        let m : n ≡ length bs = cc in
        let l = leb-true (length bs) (length o) e in
        let z : 0 + length bs ≤ length o = omega (arith, l) in
        let q : o' ≡ bs ++ drop (0 + length bs) o = w ∙ splice-is o 0 bs z in
        rw (m, q) (record {
          within = rw lib.ListN.length-append (omega arith);
          front = bs;
          wrote = refl;
          size = refl;
          stands = take-append_seam bs (drop (0 + length bs) o);
        })
    go false e a w = no-done a
done-stand (refuses k p) v = no-done v.answer

pub form-done : (y : Reply) (s : List ℕ) {o o' : List ℕ} {n : ℕ} {r : Bool} → Served y o o' (Ok n) → r ≡ same_text (take n o') s → r ≡ is_written y s
form-done y s {n = n} v e =
    let d = done-stand y v in
    e ∙ ap (λ (x : List ℕ). same_text x s) d.stands ∙ ap (λ (x : Reply). is_written x s) (sym d.wrote)

-- the answer under another name
pub served-as : {y : Reply} {o o' : List ℕ} {v w : Written} → Served y o o' v → v ≡ w → Served y o o' w
served-as {y} {o} {o'} h e = subst (λ (x : Written). Served y o o' x) e h

-- ---- the verdict

record-response : (n : ℕ) (m : Message) → (record_of n m).response ≡ is_response m.start
unfolding record_of
record-response n m = go m.start
  where
    go : (st : Start) → (record_from st n m).response ≡ is_response st
    go (request_start q s a p) = refl
    go (response_start hs s) = refl

pub is-response : {s : List ℕ} {n : ℕ} {m : Message} {r : Record} {hs ns cs ts : List ℕ} → Held s n m r hs ns cs ts → r.response ≡ is_response m.start
is-response {n = n} {m = m} h = ap (λ (x : Record). x.response) h.numbers ∙ record-response n m

-- a call that is told nothing of the message reads it as bundles do
pub told-nothing : (s : List ℕ) {t : Told} {hs hs' ns ns' cs cs' ts ts' : List ℕ} {o : Outcome} → t ≡ plain 0
    → Responded (read_binary t s) hs hs' ns ns' cs cs' ts ts' o → Responded (read_message s) hs hs' ns ns' cs cs' ts ts' o
told-nothing s {hs = hs} {hs' = hs'} {ns = ns} {ns' = ns'} {cs = cs} {cs' = cs'} {ts = ts} {ts' = ts'} {o = o} e h =
    subst (λ (t : Told). Responded (read_binary t s) hs hs' ns ns' cs cs' ts ts' o) e h

pub message-held : (s : List ℕ) {hs hs' ns ns' cs cs' ts ts' : List ℕ} {o : Outcome} {r : Record} → Responded (read_message s) hs hs' ns ns' cs cs' ts ts' o
    → o ≡ Ok r → 1280 ≤ length hs → 8 ≤ length ns → 512 ≤ length cs → 256 ≤ length ts → IsHeld (read_message s) s r hs' ns' cs' ts'
message-held s h e = held s h e (λ n m q. (binary-sound (plain 0) s n m q).sound)

module _ (kind : ℕ) (s : List ℕ) where
  pub verdict-more : {hs hs' ns ns' cs cs' ts ts' : List ℕ} {o : Outcome} → Responded (read_message s) hs hs' ns ns' cs cs' ts ts' o → o ≡ Err Stop.More
      → more_needed ≡ message_verdict kind s
  unfolding message_verdict
  verdict-more h e = sym (ap (verdict_on kind s) (given-more (response-outcomed h) e))

  pub verdict-refused : {hs hs' ns ns' cs cs' ts ts' : List ℕ} {o : Outcome} → Responded (read_message s) hs hs' ns ns' cs cs' ts ts' o → (k p : ℕ)
      → o ≡ Err (Stop.Refused (refused_at k p)) → k ≡ message_verdict kind s
  unfolding message_verdict
  verdict-refused h k p e = sym (ap (verdict_on kind s) (given-refusal (response-outcomed h) k p e))

  module _ {r : Record} {hs ns cs ts : List ℕ} (h : IsHeld (read_message s) s r hs ns cs ts) {t : Bool} (et : t ≡ eqb kind (kind_number r.response)) where
    by_kind : message_verdict kind s ≡ cond t (cond (is_written (to_binary (meaning h.1)) s) 0 bad_entry) bad_entry
    unfolding message_verdict
    by_kind =
        ap (verdict_on kind s) h.2
        ∙ ap (λ (x : Bool). cond (eqb kind (kind_number x)) (cond (is_written (to_binary (meaning h.1)) s) 0 bad_entry) bad_entry) (sym (is-response h.3))
        ∙ ap (λ (x : Bool). cond x (cond (is_written (to_binary (meaning h.1)) s) 0 bad_entry) bad_entry) (sym et)

    pub verdict-other : t ≡ false → bad_entry ≡ message_verdict kind s
    verdict-other n = sym (by_kind ∙ rw n)

    module _ (q : t ≡ true) {b : Bool} (f : b ≡ is_written (to_binary (meaning h.1)) s) where
      pub verdict-good : b ≡ true → 0 ≡ message_verdict kind s
      verdict-good y = sym (by_kind ∙ rw (q, sym f ∙ y))

      pub verdict-formless : b ≡ false → bad_entry ≡ message_verdict kind s
      verdict-formless y = sym (by_kind ∙ rw (q, sym f ∙ y))
