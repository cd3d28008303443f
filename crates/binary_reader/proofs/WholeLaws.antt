-- A message, from its framing indicator on, and its answer by value.
use Prim.Native.Nat.{ℕ, zero, suc, ◌+◌, ◌%◌, ◌<◌, ◌≤◌}
use mathlib.Core.Path.{◌≡◌, refl, sym, ap, ◌∙◌, subst}
use mathlib.Core.Bool.{true, false}
use mathlib.Core.List.{List}
use native.Mathlib.Omega.{arith}
use borrow.Author.Tests.{ne_eqb}
use mathlib.Core.Logic.{◌⊎◌, inl, inr}
use lib.Dec.{ltb, leb}
use lib.ListN.{length, drop, replicate}
use Rattle.octets.specs.Limits.{binary_most}
use Rattle.octets.specs.Refusals.{too_large, cut_off, bad_indicator, bad_edition, refused_at}
use Rattle.numbers.specs.Integer.{integer_of, read_int}
use Rattle.script.specs.Script.{Answer, refused}
use Rattle.messages.specs.Message.{Message}
use Rattle.messages.specs.Answers.{reading_of}
use Rattle.messages.specs.Answers.{Outcome}
use Rattle.std.proofs.Common.{Some, None, Err}
use Rattle.messages.specs.declared.Stop.{Stop}
use Rattle.octets.specs.declared.Refused.{Refused}
use Rattle.messages.specs.declared.Told.{Told}
use Rattle.messages.specs.Told.{is_edition}
use Rattle.binary.specs.declared.Cursor.{Cursor}
use Rattle.binary.specs.Reader.{no, cursor, ◌>>=◌}
use Rattle.binary.specs.declared.Form.{Form}
use Rattle.binary.specs.Read.{form_of, request_message, response_message, after_indicator, message, message_answer, read_sized, read_binary}
use Rattle.binary_sound.proofs.Sound.{binary-sound}
use Rattle.ranges.specs.Ranges.{Responded, CountsWithin, reading_from}
use Rattle.ranges.proofs.ByValue.{counts-within, by_value}
use Rattle.messages.specs.Room.{section_room, heads_room, informational_room, chunks_room}
use Rattle.binary_parts.proofs.Places.{integer-cut, integer-got}
use Rattle.binary_reader.specs.Requests.{Requested}
use Rattle.binary_reader.proofs.Answered.{answered-as, answered-no, refused-as}

-- ---- behind the framing indicator

even_small : (f : ℕ) → f ≤ 3 → f % 2 ≡ 0 → (f ≡ 0) ⊎ (f ≡ 2)
even_small zero h e = inl refl
even_small (suc zero) h e = absurd (omega (arith, e))
even_small (suc (suc zero)) h e = inr refl
even_small (suc (suc (suc zero))) h e = absurd (omega (arith, e))
even_small (suc (suc (suc (suc n)))) h e = absurd (omega (arith, h))

odd_small : (f : ℕ) → f ≤ 3 → (f % 2 ≡ 0 → ⊥) → (f ≡ 1) ⊎ (f ≡ 3)
odd_small zero h e = absurd (e refl)
odd_small (suc zero) h e = inl refl
odd_small (suc (suc zero)) h e = absurd (e refl)
odd_small (suc (suc (suc zero))) h e = inr refl
odd_small (suc (suc (suc (suc n)))) h e = absurd (omega (arith, h))

module _ (t : Told) {f : ℕ} (from : Cursor) (l : List ℕ) where
  indicator-is : (g : ℕ) → f ≡ g → after_indicator t f from l ≡ after_indicator t g from l
  indicator-is g e = ap (λ (n : ℕ). after_indicator t n from l) e

  indicator-other : (f ≡ 0 → ⊥) → (f ≡ 1 → ⊥) → (f ≡ 2 → ⊥) → (f ≡ 3 → ⊥) → after_indicator t f from l ≡ no bad_indicator 0
  unfolding after_indicator
  indicator-other a b c d = rw (ne_eqb f 0 a, ne_eqb f 1 b, ne_eqb f 2 c, ne_eqb f 3 d)

  module _ {form : Form} {hs hs' ns cs cs' ts ts' : List ℕ} {r : Outcome} where
    indicated-request : f ≡ 0 → form ≡ form_of t.edition true → Requested (request_message form from l) hs hs' cs cs' ts ts' r
        → Responded (message_answer (after_indicator t f from l)) hs hs' ns ns cs cs' ts ts' r
    unfolding after_indicator
    indicated-request e q h = answered-as {y = request_message form from l} (indicator-is 0 e ∙ rw q refl) (h.by ns)

    indicated-open-request : f ≡ 2 → form ≡ form_of t.edition false → Requested (request_message form from l) hs hs' cs cs' ts ts' r
        → Responded (message_answer (after_indicator t f from l)) hs hs' ns ns cs cs' ts ts' r
    unfolding after_indicator
    indicated-open-request e q h = answered-as {y = request_message form from l} (indicator-is 2 e ∙ rw q refl) (h.by ns)

  module _ {form : Form} {hs hs' ns ns' cs cs' ts ts' : List ℕ} {r : Outcome} where
    indicated-response : f ≡ 1 → form ≡ form_of t.edition true → Responded (message_answer (response_message t form from l)) hs hs' ns ns' cs cs' ts ts' r
        → Responded (message_answer (after_indicator t f from l)) hs hs' ns ns' cs cs' ts ts' r
    unfolding after_indicator
    indicated-response e q h = answered-as {y = response_message t form from l} (indicator-is 1 e ∙ rw q refl) h

    indicated-open-response : f ≡ 3 → form ≡ form_of t.edition false → Responded (message_answer (response_message t form from l)) hs hs' ns ns' cs cs' ts ts' r
        → Responded (message_answer (after_indicator t f from l)) hs hs' ns ns' cs cs' ts ts' r
    unfolding after_indicator
    indicated-open-response e q h = answered-as {y = response_message t form from l} (indicator-is 3 e ∙ rw q refl) h

  -- an even one is a request's, an odd one a response's; those of known length come first
  module _ (small : f ≤ 3) {form : Form} (q : form ≡ form_of t.edition (ltb f 2)) where
    known : {g : ℕ} → f ≡ g → form ≡ form_of t.edition (ltb g 2)
    known e = q ∙ ap (λ (n : ℕ). form_of t.edition (ltb n 2)) e

    pub indicated-even : {hs hs' ns cs cs' ts ts' : List ℕ} {r : Outcome} → f % 2 ≡ 0 → Requested (request_message form from l) hs hs' cs cs' ts ts' r
        → Responded (message_answer (after_indicator t f from l)) hs hs' ns ns cs cs' ts ts' r
    indicated-even {hs} {hs'} {ns} {cs} {cs'} {ts} {ts'} {r} e h = on (even_small f small e)
      where
        on : (f ≡ 0) ⊎ (f ≡ 2) → Responded (message_answer (after_indicator t f from l)) hs hs' ns ns cs cs' ts ts' r
        on (inl z) = indicated-request z (known z) h
        on (inr z) = indicated-open-request z (known z) h

    pub indicated-odd : {hs hs' ns ns' cs cs' ts ts' : List ℕ} {r : Outcome} → (f % 2 ≡ 0 → ⊥) → Responded (message_answer (response_message t form from l)) hs hs' ns ns' cs cs' ts ts' r
        → Responded (message_answer (after_indicator t f from l)) hs hs' ns ns' cs cs' ts ts' r
    indicated-odd {hs} {hs'} {ns} {ns'} {cs} {cs'} {ts} {ts'} {r} e h = on (odd_small f small e)
      where
        on : (f ≡ 1) ⊎ (f ≡ 3) → Responded (message_answer (after_indicator t f from l)) hs hs' ns ns' cs cs' ts ts' r
        on (inl z) = indicated-response z (known z) h
        on (inr z) = indicated-open-response z (known z) h

  pub indicated-other : {hs hs' ns ns' cs cs' ts ts' : List ℕ} {e : Refused} → e ≡ refused_at bad_indicator 0 → 3 < f
      → Responded (message_answer (after_indicator t f from l)) hs hs' ns ns' cs cs' ts ts' (Err (Stop.Refused e))
  indicated-other q h =
      refused-as q (answered-no (indicator-other (λ z. omega (arith, h, z)) (λ z. omega (arith, h, z)) (λ z. omega (arith, h, z)) (λ z. omega (arith, h, z))))

-- ---- the whole input

read_whole : (t : Told) (s : List ℕ) → leb (length s) binary_most ≡ true → read_sized t s ≡ message_answer (message t (cursor 0 0) s)
unfolding read_sized
read_whole t s h = rw h

message-cut : (t : Told) (s : List ℕ) → read_int 0 (drop 0 s) ≡ None → message t (cursor 0 0) s ≡ no cut_off 0
unfolding message ◌>>=◌
message-cut t s e = rw (integer-cut s (cursor 0 0) cut_off 0 e)

message-indicated : (t : Told) (s : List ℕ) {v next long : ℕ} → read_int 0 (drop 0 s) ≡ Some (integer_of v next long)
    → message t (cursor 0 0) s ≡ after_indicator t v (cursor next long) (drop next s)
unfolding message ◌>>=◌
message-indicated t s {long = long} e = let z : 0 + long ≡ long = omega arith in rw (integer-got s (cursor 0 0) cut_off 0 e, z)

module _ (t : Told) (s : List ℕ) {hs hs' ns ns' cs cs' ts ts' : List ℕ} where
  whole-as : {x : Answer Message} {r : Outcome} → read_sized t s ≡ x → Responded x hs hs' ns ns' cs cs' ts ts' r → Responded (read_sized t s) hs hs' ns ns' cs cs' ts ts' r
  whole-as {r = r} e h = subst (λ (z : Answer Message). Responded z hs hs' ns ns' cs cs' ts ts' r) (sym e) h

  pub whole-large : leb (length s) binary_most ≡ false → Responded (read_sized t s) hs hs' ns ns' cs cs' ts ts' (Err (Stop.Refused (refused_at too_large 0)))
  unfolding read_sized
  whole-large h = whole-as {x = refused too_large 0} (rw h) (record { says = refl; informational = tt })

  module _ (h : leb (length s) binary_most ≡ true) where
    pub whole-cut : read_int 0 (drop 0 s) ≡ None → Responded (read_sized t s) hs hs' ns ns' cs cs' ts ts' (Err (Stop.Refused (refused_at cut_off 0)))
    whole-cut e = whole-as (read_whole t s h) (answered-no (message-cut t s e))

    pub whole-indicated : {v next long : ℕ} {r : Outcome} → read_int 0 (drop 0 s) ≡ Some (integer_of v next long)
        → Responded (message_answer (after_indicator t v (cursor next long) (drop next s))) hs hs' ns ns' cs cs' ts ts' r → Responded (read_sized t s) hs hs' ns ns' cs cs' ts ts' r
    whole-indicated e w = whole-as (read_whole t s h) (answered-as (message-indicated t s e) w)

-- told an edition, and told another number
module _ (t : Told) (s : List ℕ) {hs hs' ns ns' cs cs' ts ts' : List ℕ} where
  pub edition-told : {r : Outcome} → is_edition t.edition ≡ true → Responded (read_sized t s) hs hs' ns ns' cs cs' ts ts' r
      → Responded (read_binary t s) hs hs' ns ns' cs cs' ts ts' r
  unfolding read_binary
  edition-told e h = rw e h

  pub edition-other : is_edition t.edition ≡ false → Responded (read_binary t s) hs hs' ns ns' cs cs' ts ts' (Err (Stop.Refused (refused_at bad_edition 0)))
  unfolding read_binary
  edition-other e = rw e (record { says = refl; informational = tt })

module _ (t : Told) (s : List ℕ) {hs' ns' cs' ts' : List ℕ} {o : Outcome}
    (h : Responded (read_binary t s) (replicate heads_room 0) hs' (replicate informational_room 0) ns' (replicate chunks_room 0) cs' (replicate section_room 0) ts' o) where
  pub binary-counts : CountsWithin o ns'
  binary-counts = counts-within s h (λ n m e. (binary-sound t s n m e).sound)

  pub binary-by-value : reading_from o ns' hs' ts' cs' ≡ reading_of (read_binary t s)
  binary-by-value = by_value s h (λ n m e. (binary-sound t s n m e).sound)
