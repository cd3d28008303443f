-- The C entries under demand 1: from their promises, and from demands 1 and 2. Assumes nothing.
use Prim.Native.Nat.{ℕ, ◌≤◌}
use mathlib.Core.Path.{◌≡◌, refl, sym, ap, ◌∙◌}
use mathlib.Core.Bool.{Bool, true, false, cond}
use mathlib.Core.List.{List, [], ◌∷◌, ◌++◌}
use native.Mathlib.Omega.{arith}
use borrow.Author.Tests.{le-leb, leb-true}
use lib.Dec.{leb, lit≤}
use lib.ListN.{length, drop, length-append, length-replicate}
use Rattle.octets.specs.Refusals.{more_needed, no_room, refused_at}
use Rattle.script.specs.Script.{Answer, accepted, refused, more}
use Rattle.script.specs.Do.{Piece}
use Rattle.messages.specs.declared.Told.{Told}
use Rattle.messages.specs.Message.{Start, request_start, response_start, Message}
use Rattle.messages.specs.Answers.{chunks_numbers, informational_numbers, informational_in, padded, record_from, record_of}
use Rattle.sound.specs.Refusal.{is_one_of}
use Rattle.sound.specs.Sound.{Sound}
use Rattle.sound.proofs.Each.{each_map}
use Rattle.http1_lines.specs.Read.{read_request, read_response}
use Rattle.http1_sound.specs.Read.{request_numbers, response_numbers}
use Rattle.http1_sound.proofs.Refusals.{request-refused, response-refused}
use Rattle.http1_sound.proofs.Sound.{request-sound, response-sound}
use Rattle.binary.specs.Read.{read_binary}
use Rattle.binary_sound.specs.Sound.{binary_numbers}
use Rattle.binary_sound.proofs.Refusals.{binary-refused, binary-settled}
use Rattle.binary_sound.proofs.Sound.{binary-sound}
use Rattle.ranges.specs.Ranges.{head_numbers, trailer_numbers}
use Rattle.ranges.proofs.Outcomes.{fields-small, informational-small, chunks-small, trailers-small}
use Rattle.output.specs.Splice.{splice}
use Rattle.output.specs.Reply.{Reply, writes, refuses, written_of, written_number, written_place, lent_after, Written}
use Rattle.turn.specs.Turn.{taken_from, request_to_binary, response_to_binary}
use Rattle.turn.specs.Question.{Question, found_part, lent_number, lent_place, value_or, request_question, response_question, binary_question}
use Rattle.question.specs.Asking.{found_of, asked_of, points_to}
use Rattle.listing.specs.Listing.{listing_of}
use Rattle.demands.specs.Demand1.{RefusalOf, read_number, TurnNumbers, AskNumbers}
use Rattle.demands.proofs.Demand1.{From, request-from, response-from, binary-from, above, later, octets-wrongs, turn-numbers, demand1}
use Rattle.demands.proofs.Demand2.{no, splice_front, lent, demand2}
use Rattle.capi.specs.Entries.{record_numbers, entry_numbers, Entered, EntryServed, FieldEntered}
use Rattle.capi.proofs.Giving.{record-size}
use Rattle.boundary.specs.Entries.{ranges_most, EntryReads, EntryWrites, EntryTakes, EntryAsks, SliceAsks, Boundary}
use Rattle.std.proofs.Common.{Ok, Err, Option, Some, None}

-- ---- room for the numbers of a message

padded-length : (l : List ℕ) → length l ≤ 8 → length (padded 8 l) ≡ 8
unfolding padded
padded-length l h = simp (length-append, length-replicate) (omega (arith, h))

joined_small : (a b c d e : List ℕ) → length a ≡ 20 → length b ≡ 8 → length c ≤ 1280 → length d ≤ 512 → length e ≤ 256 → length ((a ++ b) ++ (c ++ d ++ e)) ≤ ranges_most
joined_small a b c d e h i j k l = simp (length-append) (omega (arith, h, i, j, k, l))

entry-small : (s : List ℕ) (n : ℕ) (m : Message) → Sound s m → length (entry_numbers n m) ≤ ranges_most
unfolding entry_numbers
entry-small s n m h =
    joined_small (record_numbers (record_of n m)) (padded 8 (informational_numbers (informational_in m.start))) (head_numbers m) (chunks_numbers m.chunks) (trailer_numbers m)
    (record-size (record_of n m)) (padded-length (informational_numbers (informational_in m.start)) (informational-small h)) (fields-small h) (chunks-small h) (trailers-small h)

record-length : (n : ℕ) (m : Message) → (record_of n m).length ≡ n
unfolding record_of
record-length n m = go m.start
  where
    go : (x : Start) → (record_from x n m).length ≡ n
    go (request_start a b c d) = refl
    go (response_start a b) = refl

-- ---- reading

-- what is known of a reader's answers
record Known (numbers : List ℕ) (read : List ℕ → Answer Message) : Type 0 where
  refuse : (s : List ℕ) (k p : ℕ) → read s ≡ refused k p → RefusalOf numbers s k p
  need : (s : List ℕ) → read s ≡ more → is_one_of numbers more_needed ≡ true
  accept : (s : List ℕ) (n : ℕ) (m : Message) → read s ≡ accepted n m → (n ≤ length s) × Sound s m
  from : From 1 numbers

wide : (ns : List ℕ) (k : ℕ) → is_one_of ns k ≡ true → is_one_of (0 ∷ 13 ∷ ns) k ≡ true
wide ns k h = (later 0 (13 ∷ ns)).has k ((later 13 ns).has k h)

module _ (ns : List ℕ) (read : List ℕ → Answer Message) (know : Known ns read) (s o o' : List ℕ) (place number : ℕ) where
  entry-numbered : Entered (read s) (length s) o o' place number → RefusalOf (0 ∷ 13 ∷ ns) s number place
  entry-numbered h = go (read s) refl h
    where
      go : (x : Answer Message) → read s ≡ x → Entered x (length s) o o' place number → RefusalOf (0 ∷ 13 ∷ ns) s number place
      go (accepted n m) e h = on (leb (length (entry_numbers n m)) (length o)) h.answers h.places
        where
          on : (b : Bool) → number ≡ cond b 0 no_room → place ≡ cond b (record_of n m).length 0 → RefusalOf (0 ∷ 13 ∷ ns) s number place
          on true a p = (rw a refl, omega (arith, p, record-length n m, (know.accept s n m e).0))
          on false a p = (rw a refl, omega (arith, p))
      go (refused k p) e h = let r = know.refuse s k p e in (rw h.answers (wide ns k r.0), omega (arith, h.places, r.1))
      go more e h = (rw h.answers (wide ns more_needed (know.need s e)), omega (arith, h.places))

  entry-unaltered : Entered (read s) (length s) o o' place number → (number ≡ 0 → ⊥) → o' ≡ o
  entry-unaltered h z = go (read s) h
    where
      go : (x : Answer Message) → Entered x (length s) o o' place number → o' ≡ o
      go (accepted n m) h = on (leb (length (entry_numbers n m)) (length o)) h.answers h.after
        where
          on : (b : Bool) → number ≡ cond b 0 no_room → o' ≡ cond b (splice o 0 (entry_numbers n m)) o → o' ≡ o
          on true a q = absurd (z a)
          on false a q = q
      go (refused k p) h = h.after
      go more h = h.after

  entry-accepts : Entered (read s) (length s) o o' place number → number ≡ 0
      → (m : Message) × (read s ≡ accepted place m) × (o' ≡ entry_numbers place m ++ drop (length (entry_numbers place m)) o)
  entry-accepts h z = go (read s) refl h
    where
      go : (x : Answer Message) → read s ≡ x → Entered x (length s) o o' place number
          → (m : Message) × (read s ≡ accepted place m) × (o' ≡ entry_numbers place m ++ drop (length (entry_numbers place m)) o)
      go (accepted n m) e h = on (leb (length (entry_numbers n m)) (length o)) refl h.answers h.places h.after
        where
          on : (b : Bool) → leb (length (entry_numbers n m)) (length o) ≡ b → number ≡ cond b 0 no_room → place ≡ cond b (record_of n m).length 0
              → o' ≡ cond b (splice o 0 (entry_numbers n m)) o
              → (m : Message) × (read s ≡ accepted place m) × (o' ≡ entry_numbers place m ++ drop (length (entry_numbers place m)) o)
          on true l a p q =
              let i : place ≡ n = p ∙ record-length n m in
              (m, rw i e, rw i (q ∙ splice_front o (entry_numbers n m) (leb-true (length (entry_numbers n m)) (length o) l)))
          on false l a p q = absurd (omega (arith, a, z))
      go (refused k p) e h = absurd (omega (arith, h.answers, z, above 1 ns know.from k (know.refuse s k p e).0))
      go more e h = absurd (omega (arith, h.answers, z))

  entry-enough : Entered (read s) (length s) o o' place number → ranges_most ≤ length o → number ≡ read_number (read s)
  entry-enough h w = go (read s) refl h
    where
      go : (x : Answer Message) → read s ≡ x → Entered x (length s) o o' place number → number ≡ read_number x
      go (accepted n m) e h =
          let l : leb (length (entry_numbers n m)) (length o) ≡ true = le-leb (length (entry_numbers n m)) (length o) (omega (arith, w, entry-small s n m (know.accept s n m e).1)) in
          h.answers ∙ ap (λ (b : Bool). cond b 0 no_room) l
      go (refused k p) e h = h.answers
      go more e h = h.answers

entry-reads : (ns : List ℕ) (read : List ℕ → Answer Message) → Known ns read → EntryReads ns read
entry-reads ns read k = record {
  numbered = entry-numbered ns read k;
  unaltered = entry-unaltered ns read k;
  accepts = entry-accepts ns read k;
  enough = entry-enough ns read k;
}

request-known : (t : Told) → Known (1 ∷ request_numbers) (read_request t)
request-known t = record {
  refuse = λ s k p e. let r = request-refused t s k p e in ((later 1 request_numbers).has k r.of_form, r.inside);
  need = λ s e. refl;
  accept = λ s n m e. let h = request-sound t s n m e in (h.within, h.sound);
  from = (lit≤ tt, each_map (λ k. 2 ≤ k) (λ k. 1 ≤ k) (λ k e. omega (arith, e)) request_numbers request-from);
}

response-known : (t : Told) → Known (1 ∷ response_numbers) (read_response t)
response-known t = record {
  refuse = λ s k p e. let r = response-refused t s k p e in ((later 1 response_numbers).has k r.of_form, r.inside);
  need = λ s e. refl;
  accept = λ s n m e. let h = response-sound t s n m e in (h.within, h.sound);
  from = (lit≤ tt, each_map (λ k. 2 ≤ k) (λ k. 1 ≤ k) (λ k e. omega (arith, e)) response_numbers response-from);
}

binary-known : (t : Told) → Known binary_numbers (read_binary t)
binary-known t = record {
  refuse = λ s k p e. let r = binary-refused t s k p e in (r.of_form, r.inside);
  need = λ s e. absurd (rw e at (binary-settled t s));
  accept = λ s n m e. let h = binary-sound t s n m e in (omega (arith, h.whole), h.sound);
  from = each_map (λ k. 2 ≤ k) (λ k. 1 ≤ k) (λ k e. omega (arith, e)) binary_numbers binary-from;
}

-- ---- writing

module _ (ns : List ℕ) (turn : List ℕ → Reply) (d : TurnNumbers ns turn) (s o o' : List ℕ) (place number : ℕ) (h : EntryServed (turn s) o o' place number) where
  entry-refuses : (number ≡ 0 → ⊥) → RefusalOf (13 ∷ ns) s number place × (o' ≡ o)
  entry-refuses z = go (written_of (turn s) (length o)) refl h.answers h.places
    where
      go : (r : Written) → written_of (turn s) (length o) ≡ r → number ≡ written_number r → place ≡ written_place r → RefusalOf (13 ∷ ns) s number place × (o' ≡ o)
      go (Ok n) e a p = absurd (z a)
      go (Err z) e a p = let r = d.in_room s (length o) z.number z.place e in ((rw a r.0, omega (arith, p, r.1)), h.after ∙ (lent (turn s)).unaltered o z.number z.place e)

  entry-wrote : number ≡ 0 → (b : List ℕ) × (turn s ≡ writes b) × (place ≡ length b) × (o' ≡ b ++ drop (length b) o)
  unfolding written_of
  entry-wrote z = go (turn s) refl h.answers h.places h.after ((d.writes s (length o)).0 (sym h.answers ∙ z))
    where
      on : (b : List ℕ) (t : Bool) → leb (length b) (length o) ≡ t → turn s ≡ writes b → number ≡ written_number (cond t (Ok (length b)) (Err (refused_at no_room 0)))
          → place ≡ written_place (cond t (Ok (length b)) (Err (refused_at no_room 0))) → o' ≡ lent_after (writes b) o
          → (b : List ℕ) × (turn s ≡ writes b) × (place ≡ length b) × (o' ≡ b ++ drop (length b) o)
      on b true l e a p q = (b, e, p, q ∙ ((lent (writes b)).done o b refl (leb-true (length b) (length o) l)).1)
      on b false l e a p q = absurd (omega (arith, a, z))

      go : (y : Reply) → turn s ≡ y → number ≡ written_number (written_of y (length o)) → place ≡ written_place (written_of y (length o)) → o' ≡ lent_after y o
          → ((n : ℕ) × (written_of (turn s) (length o) ≡ Ok n)) → (b : List ℕ) × (turn s ≡ writes b) × (place ≡ length b) × (o' ≡ b ++ drop (length b) o)
      go (writes b) e a p q w = on b (leb (length b) (length o)) refl e a p q
      go (refuses k j) e a p q w = let f = ap (λ (y : Reply). written_of y (length o)) e in let g = w.1 in no cc

entry-writes : (ns : List ℕ) (turn : List ℕ → Reply) → TurnNumbers ns turn → EntryWrites ns turn
entry-writes ns turn d = record { refuses = entry-refuses ns turn d; wrote = entry-wrote ns turn d }

listing-numbers : TurnNumbers [] (λ s. writes (listing_of s))
listing-numbers = turn-numbers [] tt (λ s. writes (listing_of s)) (λ s. octets-wrongs [] s (listing_of s))

-- ---- off a stream

not_taken : (x : Answer Message) (k p : ℕ) → taken_from x (Err (refused_at k p)) ≡ 0
not_taken (accepted n m) k p = refl
not_taken (refused j q) k p = refl
not_taken more k p = refl

entry-takes : (ns : List ℕ) (read : List ℕ → Answer Message) (turn : List ℕ → Reply) → TurnNumbers ns turn
    → ((s b : List ℕ) → turn s ≡ writes b → (n : ℕ) × (m : Message) × (read s ≡ accepted n m)) → EntryTakes read turn
entry-takes ns read turn d kept = record {
  taken = λ s o o' taken place number h z.
      let w = entry-wrote ns turn d s o o' place number h.served z in
      let k = kept s w.0 w.1 in
      let r = (d.writes s (length o)).0 (sym h.served.answers ∙ z) in
      let t : taken ≡ k.0 = h.takes ∙ rw (k.2, r.1) refl in
      (k.1, rw t k.2);
  untaken = λ s o o' taken place number h z. go s o (written_of (turn s) (length o)) refl taken number h.served.answers h.takes z;
}
  where
    go : (s o : List ℕ) (w : Written) → written_of (turn s) (length o) ≡ w → (taken number : ℕ) → number ≡ written_number (written_of (turn s) (length o))
        → taken ≡ taken_from (read s) (written_of (turn s) (length o)) → (number ≡ 0 → ⊥) → taken ≡ 0
    go s o (Ok n) e taken number a t z = absurd (z (a ∙ ap written_number e))
    go s o (Err r) e taken number a t z = t ∙ ap (taken_from (read s)) e ∙ not_taken (read s) r.number r.place

-- ---- the field question

entry-asks : (ns : List ℕ) (ask : List ℕ → List ℕ → Question) → AskNumbers ns ask → EntryAsks ns ask
unfolding asked_of
entry-asks ns ask d = record {
  numbered = λ name s number place start len answer h.
      let r = d.receives name s in
      let n = lent (ask name s) number place start len answer h in
      (rw n.0 r.0, omega (arith, n.1, r.1));
  found = λ name s number place start len answer h e. is (ask name s) number place start len answer h e;
  default = λ name s number place start len answer h e. none_is (ask name s) number place start len answer h e;
}
  where
    lent : (q : Question) (number place start len answer : ℕ) → FieldEntered (asked_of q) number place start len answer
        → (number ≡ lent_number q) × (place ≡ lent_place q)
    lent (Ok f) number place start len answer h = (h.numbers, h.places)
    lent (Err k) number place start len answer h = (h.numbers, h.places)

    is : (q : Question) (number place start len answer : ℕ) → FieldEntered (asked_of q) number place start len answer → answer ≡ 1
        → (w : Piece) × (found_part q ≡ Some w) × (start ≡ w.place) × (len ≡ length w.text)
    is (Ok (Some w)) number place start len answer h e = (w, refl, h.starts, h.lengths)
    is (Ok None) number place start len answer h e = absurd (omega (arith, h.answers, e))
    is (Err k) number place start len answer h e = absurd (omega (arith, h.answers, e))

    none_is : (q : Question) (number place start len answer : ℕ) → FieldEntered (asked_of q) number place start len answer → (answer ≡ 1 → ⊥)
        → (found_part q ≡ None) × (answer ≡ 0) × (start ≡ 0) × (len ≡ 0)
    none_is (Ok (Some w)) number place start len answer h e = absurd (e h.answers)
    none_is (Ok None) number place start len answer h e = (refl, h.answers, h.starts, h.lengths)
    none_is (Err k) number place start len answer h e = (refl, h.answers, h.starts, h.lengths)

slice-asks : (ns : List ℕ) (ask : List ℕ → List ℕ → Question) → AskNumbers ns ask → SliceAsks ns ask
slice-asks ns ask d = record {
  numbered = λ name s default ma da octets at number place h. let r = d.receives name s in (rw h.number r.0, omega (arith, h.place, r.1));
  found = λ name s default ma da octets at number place h w e. (h.value ∙ ap (value_or default) e, h.slice ∙ ap (λ (f : Option Piece). points_to (found_of f) ma da) e);
  default = λ name s default ma da octets at number place h e. (h.value ∙ ap (value_or default) e, h.slice ∙ ap (λ (f : Option Piece). points_to (found_of f) ma da) e);
}

-- ---- the claim

pub boundary : Boundary
boundary = record {
  requests = λ t. entry-reads (1 ∷ request_numbers) (read_request t) (request-known t);
  responses = λ t. entry-reads (1 ∷ response_numbers) (read_response t) (response-known t);
  binaries = λ t. entry-reads binary_numbers (read_binary t) (binary-known t);
  requests_turned = λ t. entry-writes (1 ∷ request_numbers) _ (demand1.requests_turned t);
  responses_turned = λ t. entry-writes (1 ∷ response_numbers) _ (demand1.responses_turned t);
  binaries_anew = λ t. entry-writes binary_numbers _ (demand1.binaries_anew t);
  binaries_turned = λ t. entry-writes (14 ∷ binary_numbers) _ (demand1.binaries_turned t);
  listed = entry-writes [] _ listing-numbers;
  requests_taken = λ t.
      entry-takes (1 ∷ request_numbers) (read_request t) (request_to_binary t) (demand1.requests_turned t)
      (λ s b e. let k = (demand2.requests t).kept s b e in (k.long, k.message, k.read));
  responses_taken = λ t.
      entry-takes (1 ∷ response_numbers) (read_response t) (response_to_binary t) (demand1.responses_turned t)
      (λ s b e. let k = (demand2.responses t).kept s b e in (k.long, k.message, k.read));
  requests_asked = λ t. entry-asks (1 ∷ request_numbers) (request_question t) (demand1.requests_asked t);
  responses_asked = λ t. entry-asks (1 ∷ response_numbers) (response_question t) (demand1.responses_asked t);
  binaries_asked = λ t. entry-asks binary_numbers (binary_question t) (demand1.binaries_asked t);
  request_slices = λ t. slice-asks (1 ∷ request_numbers) (request_question t) (demand1.requests_asked t);
  response_slices = λ t. slice-asks (1 ∷ response_numbers) (response_question t) (demand1.responses_asked t);
  binary_slices = λ t. slice-asks binary_numbers (binary_question t) (demand1.binaries_asked t);
}
