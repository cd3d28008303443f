-- Demand 1: from what each reader refuses with. Assumes nothing.
use Prim.Native.Nat.{ℕ, ◌≤◌}
use mathlib.Core.Path.{◌≡◌, refl, ap}
use mathlib.Core.Bool.{true, cond}
use mathlib.Core.Logic.{◌↔◌}
use mathlib.Core.List.{List, ◌∷◌}
use native.Mathlib.Omega.{arith}
use lib.Dec.{leb, eqb, lit≤}
use lib.ListN.{length}
use Rattle.octets.specs.Refusals.{more_needed, not_supported, too_large, no_room, other_scheme, bad_edition, refused_at}
use Rattle.octets.proofs.Kit.{either}
use Rattle.script.specs.Script.{Answer, accepted, refused, more}
use Rattle.messages.specs.declared.Told.{Told}
use Rattle.messages.specs.Told.{is_edition}
use Rattle.messages.specs.Message.{Message}
use Rattle.messages.specs.Meaning.{Meaning, meaning}
use Rattle.messages.specs.Valid.{is_scheme}
use Rattle.messages.specs.Answers.{no_ranges, reading_of}
use Rattle.http1_lines.specs.Read.{read_request, read_response}
use Rattle.binary.specs.Read.{read_binary}
use Rattle.binary_writer.specs.Write.{binary_of, binary_fits, to_binary}
use Rattle.http1_writer.specs.Write.{http1_of, http1_fits, on_connection, to_http1}
use Rattle.output.specs.Reply.{Reply, writes, refuses, written_of, lent_after, written_number, written_place, Written}
use Rattle.turn.specs.Turn.{reply_from, request_to_binary, response_to_binary, binary_to_binary, binary_to_http1}
use Rattle.turn.specs.Question.{question_of, found_part, lent_number, lent_place, request_question, response_question, binary_question}
use Rattle.sound.specs.Placed.{Each}
use Rattle.sound.specs.Refusal.{is_one_of, Refusal}
use Rattle.sound.proofs.Each.{each_map}
use Rattle.sound.proofs.Refusals.{one_of, Among}
use Rattle.http1_sound.specs.Read.{request_numbers, response_numbers}
use Rattle.http1_sound.proofs.Refusals.{request-refused, response-refused}
use Rattle.binary_sound.specs.Sound.{binary_numbers}
use Rattle.binary_sound.proofs.Refusals.{edition-refused, other-edition, binary-refused, binary-settled}
use Rattle.demands.specs.Demand1.{RefusalOf, read_number, IsAccepted, ReadNumbers, TurnNumbers, AskNumbers, Demand1}
use Rattle.demands.proofs.Demand2.{no, lent}
use Rattle.std.proofs.Common.{Ok, Err, None}

-- ---- sets

-- none of these is below so many
abbrev pub From : ℕ → List ℕ → Type 0
From least ns = Each (λ k. least ≤ k) ns

pub request-from : From 2 request_numbers
request-from = (lit≤ tt, (lit≤ tt, (lit≤ tt, (lit≤ tt, (lit≤ tt, (lit≤ tt, (lit≤ tt, tt)))))))

pub response-from : From 2 response_numbers
response-from = (lit≤ tt, (lit≤ tt, (lit≤ tt, (lit≤ tt, (lit≤ tt, (lit≤ tt, tt))))))

pub binary-from : From 2 binary_numbers
binary-from = (lit≤ tt, (lit≤ tt, (lit≤ tt, (lit≤ tt, (lit≤ tt, (lit≤ tt, (lit≤ tt, (lit≤ tt, (lit≤ tt, (lit≤ tt, (lit≤ tt, tt)))))))))))

-- so none that is one of them
pub above : (least : ℕ) (ns : List ℕ) → From least ns → (k : ℕ) → is_one_of ns k ≡ true → least ≤ k
above least ns h k e = one_of (λ i. least ≤ i) ns h k e

-- so no refusal of Binary HTTP
pub binary-above : {s : List ℕ} {k p : ℕ} → Refusal binary_numbers s k p → 2 ≤ k
binary-above {s} {k} r = above 2 binary_numbers binary-from k r.of_form

-- one number more
pub later : (j : ℕ) (ns : List ℕ) → Among ns (j ∷ ns)
later j ns = record { has = λ k e. either (λ b. b ≡ true) (eqb j k) true (is_one_of ns k) (λ a. refl) (λ a. e) }

-- ---- reading

-- a refusal that is not 0 or 1
abbrev Above : Answer Message → Type 0
Above x = (k p : ℕ) → x ≡ refused k p → 2 ≤ k

zero_is : (x : Answer Message) → Above x → (read_number x ≡ 0) ↔ IsAccepted x
zero_is (accepted n m) h = ((λ e. (n, m, refl)), (λ g. refl))
zero_is (refused k p) h = ((λ e. absurd (omega (arith, e, h k p refl))), (λ g. let z = g.2 in no cc))
zero_is more h = ((λ e. absurd (omega (arith, e))), (λ g. let z = g.2 in no cc))

one-is : (x : Answer Message) → Above x → (read_number x ≡ more_needed) ↔ (x ≡ more)
one-is (accepted n m) h = ((λ e. absurd (omega (arith, e))), (λ g. no cc))
one-is (refused k p) h = ((λ e. absurd (omega (arith, e, h k p refl))), (λ g. no cc))
one-is more h = ((λ e. refl), (λ g. refl))

no-ranges : (x : Answer Message) → (read_number x ≡ 0 → ⊥) → (reading_of x).ranges ≡ no_ranges
no-ranges (accepted n m) h = absurd (h refl)
no-ranges (refused k p) h = refl
no-ranges more h = refl

-- from a reader's law on its refusals
read-numbers : (ns : List ℕ) (read : List ℕ → Answer Message) → From 2 ns → ((s : List ℕ) (k p : ℕ) → read s ≡ refused k p → Refusal ns s k p)
    → ReadNumbers ns read
read-numbers ns read w h = record {
  refusals = λ s k p e. let r = h s k p e in (r.of_form, r.inside);
  accepts = λ s. zero_is (read s) (λ k p e. above 2 ns w k (h s k p e).of_form);
  needs = λ s. one-is (read s) (λ k p e. above 2 ns w k (h s k p e).of_form);
  unranged = λ s. no-ranges (read s);
}

-- ---- turning

abbrev pub Wrongs : List ℕ → List ℕ → Reply → Type 0
Wrongs ns s y = (k p : ℕ) → y ≡ refuses k p → RefusalOf ns s k p

module _ (ns s : List ℕ) where
  pub octets-wrongs : (b : List ℕ) → Wrongs ns s (writes b)
  octets-wrongs b k p e = no cc

  wrong-wrongs : (j q : ℕ) → is_one_of ns j ≡ true → q ≤ length s → Wrongs ns s (refuses j q)
  wrong-wrongs j q h g k p e =
      let a : j ≡ k = cc in
      let b : q ≡ p = cc in
      (rw (← a) h, omega (arith, g))

  -- written as Binary, and as HTTP/1.1
  binary-wrongs : is_one_of ns too_large ≡ true → (m : Meaning) → Wrongs ns s (to_binary m)
  unfolding to_binary
  binary-wrongs h m =
      either (Wrongs ns s) (binary_fits m) (writes (binary_of m)) (refuses too_large 0) (λ a. octets-wrongs (binary_of m)) (λ a. wrong-wrongs too_large 0 h (omega arith))

  http1-wrongs : is_one_of ns too_large ≡ true → is_one_of ns other_scheme ≡ true → (t : Told) (m : Meaning) → Wrongs ns s (to_http1 t m)
  unfolding to_http1
  http1-wrongs h g t m =
      either (Wrongs ns s) (on_connection t m.control) (cond (http1_fits t m) (writes (http1_of t m)) (refuses too_large 0)) (refuses other_scheme 0)
      (λ a.
      either (Wrongs ns s) (http1_fits t m) (writes (http1_of t m)) (refuses too_large 0) (λ b. octets-wrongs (http1_of t m))
      (λ b. wrong-wrongs too_large 0 h (omega arith)))
      (λ a. wrong-wrongs other_scheme 0 g (omega arith))

  -- what is replied to a reader's answer, which may be a call for more
  reply-wrongs : (x : Answer Message) → ((k p : ℕ) → x ≡ refused k p → RefusalOf ns s k p) → (x ≡ more → is_one_of ns more_needed ≡ true)
      → (write : Meaning → Reply) → ((m : Meaning) → Wrongs ns s (write m)) → Wrongs ns s (reply_from (length s) x write)
  reply-wrongs (accepted k m) h g write f = f (meaning m)
  reply-wrongs (refused k p) h g write f = let r = h k p refl in wrong-wrongs k p r.0 r.1
  reply-wrongs more h g write f = wrong-wrongs more_needed (length s) (g refl) (omega arith)

-- the reader's refusal is one of the turning's
wider : (ks ns : List ℕ) → Among ks ns → (s : List ℕ) (k p : ℕ) → Refusal ks s k p → RefusalOf ns s k p
wider ks ns w s k p r = (w.has k r.of_form, r.inside)

in-room : (ns s : List ℕ) (y : Reply) → Wrongs ns s y → (room k p : ℕ) → written_of y room ≡ Err (refused_at k p) → RefusalOf (13 ∷ ns) s k p
unfolding written_of
in-room ns s (writes b) h room =
    either (λ (r : Written). (k p : ℕ) → r ≡ Err (refused_at k p) → RefusalOf (13 ∷ ns) s k p) (leb (length b) room) (Ok (length b)) (Err (refused_at no_room 0)) (λ a k p e. no cc)
    (λ a k p e.
    let x : no_room ≡ k = ap written_number e in
    let z : 0 ≡ p = ap written_place e in
    (rw (← x) refl, omega arith))
in-room ns s (refuses j q) h room = λ k p e. let a : j ≡ k = ap written_number e in let b : q ≡ p = ap written_place e in let r = h k p (rw (a, b) refl) in ((later 13 ns).has k r.0, r.1)

done-is : (r : Written) → ((k p : ℕ) → r ≡ Err (refused_at k p) → 1 ≤ k) → (written_number r ≡ 0) ↔ ((n : ℕ) × (r ≡ Ok n))
done-is (Ok n) h = ((λ e. (n, refl)), (λ g. refl))
done-is (Err r) h = ((λ e. absurd (omega (arith, e, h r.number r.place refl))), (λ g. let z = g.1 in no cc))

not_done : (y : Reply) (o : List ℕ) (r : Written) → written_of y (length o) ≡ r → (written_number r ≡ 0 → ⊥) → lent_after y o ≡ o
not_done y o (Ok n) e h = absurd (h refl)
not_done y o (Err r) e h = (lent y).unaltered o r.number r.place e

pub turn-numbers : (ns : List ℕ) → From 1 ns → (turn : List ℕ → Reply) → ((s : List ℕ) → Wrongs ns s (turn s)) → TurnNumbers ns turn
turn-numbers ns w turn h = record {
  refusals = h;
  in_room = λ s room k p e. in-room ns s (turn s) (h s) room k p e;
  writes = λ s room. done-is (written_of (turn s) room) (λ k p e. above 1 (13 ∷ ns) (lit≤ tt, w) k (in-room ns s (turn s) (h s) room k p e).0);
  unaltered = λ s o g. not_done (turn s) o (written_of (turn s) (length o)) refl g;
}

request-turned : (t : Told) (s : List ℕ) → Wrongs (1 ∷ request_numbers) s (request_to_binary t s)
unfolding request_to_binary
request-turned t s =
    reply-wrongs (1 ∷ request_numbers) s (read_request t s) (λ k p e. wider request_numbers (1 ∷ request_numbers) (later 1 request_numbers) s k p (request-refused t s k p e))
    (λ e. refl) to_binary (binary-wrongs (1 ∷ request_numbers) s refl)

response-turned : (t : Told) (s : List ℕ) → Wrongs (1 ∷ response_numbers) s (response_to_binary t s)
unfolding response_to_binary
response-turned t s =
    reply-wrongs (1 ∷ response_numbers) s (read_response t s) (λ k p e. wider response_numbers (1 ∷ response_numbers) (later 1 response_numbers) s k p (response-refused t s k p e))
    (λ e. refl) to_binary (binary-wrongs (1 ∷ response_numbers) s refl)

-- the reader of Binary asks for no more
never : (t : Told) (s : List ℕ) {A : Type 0} → read_binary t s ≡ more → A
never t s e = absurd (rw e at (binary-settled t s))

binary-anew : (t : Told) (s : List ℕ) → Wrongs binary_numbers s (binary_to_binary t s)
unfolding binary_to_binary
binary-anew t s =
    reply-wrongs binary_numbers s (read_binary t s) (λ k p e. let r = binary-refused t s k p e in (r.of_form, r.inside)) (λ e. never t s e) to_binary (binary-wrongs binary_numbers s refl)

binary_turned : (t : Told) (s : List ℕ) → Wrongs (14 ∷ binary_numbers) s (binary_to_http1 t s)
unfolding binary_to_http1
binary_turned t s =
    either (Wrongs (14 ∷ binary_numbers) s) (is_edition t.edition) (cond (is_scheme t.scheme) (reply_from (length s) (read_binary t s) (to_http1 t)) (refuses not_supported 0)) (refuses bad_edition 0)
    (λ a.
    either (Wrongs (14 ∷ binary_numbers) s) (is_scheme t.scheme) (reply_from (length s) (read_binary t s) (to_http1 t)) (refuses not_supported 0)
    (λ b.
    reply-wrongs (14 ∷ binary_numbers) s (read_binary t s) (λ k p e. wider binary_numbers (14 ∷ binary_numbers) (later 14 binary_numbers) s k p (binary-refused t s k p e))
    (λ e. never t s e) (to_http1 t) (http1-wrongs (14 ∷ binary_numbers) s refl refl t))
    (λ b. wrong-wrongs (14 ∷ binary_numbers) s not_supported 0 refl (omega arith)))
    (λ a. wrong-wrongs (14 ∷ binary_numbers) s bad_edition 0 refl (omega arith))

-- ---- the field question

asked-number : (ns s name : List ℕ) (x : Answer Message) → ((k p : ℕ) → x ≡ refused k p → RefusalOf ns s k p) → (x ≡ more → is_one_of ns more_needed ≡ true)
    → RefusalOf (0 ∷ ns) s (lent_number (question_of name (length s) x)) (lent_place (question_of name (length s) x))
asked-number ns s name (accepted n m) h g = (refl, omega arith)
asked-number ns s name (refused k p) h g = let r = h k p refl in ((later 0 ns).has k r.0, r.1)
asked-number ns s name more h g = ((later 0 ns).has more_needed (g refl), omega arith)

asked-nothing : (name : List ℕ) (n : ℕ) (x : Answer Message) → (lent_number (question_of name n x) ≡ 0 → ⊥) → found_part (question_of name n x) ≡ None
asked-nothing name n (accepted k m) h = absurd (h refl)
asked-nothing name n (refused k p) h = refl
asked-nothing name n more h = refl

request-asked : (t : Told) → AskNumbers (1 ∷ request_numbers) (request_question t)
unfolding request_question
request-asked t = record {
  receives = λ name s.
      asked-number (1 ∷ request_numbers) s name (read_request t s)
      (λ k p e. wider request_numbers (1 ∷ request_numbers) (later 1 request_numbers) s k p (request-refused t s k p e)) (λ e. refl);
  default = λ name s. asked-nothing name (length s) (read_request t s);
}

response-asked : (t : Told) → AskNumbers (1 ∷ response_numbers) (response_question t)
unfolding response_question
response-asked t = record {
  receives = λ name s.
      asked-number (1 ∷ response_numbers) s name (read_response t s)
      (λ k p e. wider response_numbers (1 ∷ response_numbers) (later 1 response_numbers) s k p (response-refused t s k p e)) (λ e. refl);
  default = λ name s. asked-nothing name (length s) (read_response t s);
}

binary-asked : (t : Told) → AskNumbers binary_numbers (binary_question t)
unfolding binary_question
binary-asked t = record {
  receives = λ name s.
      asked-number binary_numbers s name (read_binary t s) (λ k p e. let r = binary-refused t s k p e in (r.of_form, r.inside)) (λ e. never t s e);
  default = λ name s. asked-nothing name (length s) (read_binary t s);
}

-- ---- the claim

low : (ns : List ℕ) → From 2 ns → From 1 ns
low ns h = each_map (λ k. 2 ≤ k) (λ k. 1 ≤ k) (λ k e. omega (arith, e)) ns h

pub demand1 : Demand1
demand1 = record {
  requests = λ t. read-numbers request_numbers (read_request t) request-from (request-refused t);
  responses = λ t. read-numbers response_numbers (read_response t) response-from (response-refused t);
  binaries = λ t. read-numbers binary_numbers (read_binary t) binary-from (binary-refused t);
  editions = λ t s k p i e. let h = edition-refused t s k p i e in (h.of_form, h.inside);
  other_edition = other-edition;
  whole = binary-settled;
  requests_turned = λ t. turn-numbers (1 ∷ request_numbers) (lit≤ tt, low request_numbers request-from) (request_to_binary t) (request-turned t);
  responses_turned = λ t. turn-numbers (1 ∷ response_numbers) (lit≤ tt, low response_numbers response-from) (response_to_binary t) (response-turned t);
  binaries_anew = λ t. turn-numbers binary_numbers (low binary_numbers binary-from) (binary_to_binary t) (binary-anew t);
  binaries_turned = λ t. turn-numbers (14 ∷ binary_numbers) (lit≤ tt, low binary_numbers binary-from) (binary_to_http1 t) (binary_turned t);
  requests_asked = request-asked;
  responses_asked = response-asked;
  binaries_asked = binary-asked;
}
