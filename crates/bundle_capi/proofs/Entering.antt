-- From a bundle by value to the reader's entry.
use Prim.Native.Nat.{ℕ, ◌*◌, ◌-◌, ◌≤◌, ◌<◌}
use mathlib.Core.Path.{◌≡◌, refl, sym, ap, ◌∙◌}
use mathlib.Core.Bool.{true, false}
use mathlib.Core.List.{List}
use native.Mathlib.Omega.{arith}
use borrow.Author.Tests.{le-leb, lt-leb, eq-eqb, ne_eqb}
use lib.Dec.{leb, eqb}
use lib.ListN.{length, take, replicate, length-append, length-replicate}
use lib.Seq.{take_at}
use Rattle.octets.specs.Refusals.{no_room}
use Rattle.messages.specs.Answers.{padded}
use Rattle.output.specs.Splice.{splice, part}
use Rattle.output.specs.Reply.{Reply, Served, Written}
use Rattle.output.proofs.Laws.{elements-take}
use Rattle.bundle.specs.Bundle.{walk}
use Rattle.bundle.specs.Answers.{numbers_from, bundle_of}
use Rattle.bundle.specs.declared.Bundle.{Bundle}
use Rattle.bundle.proofs.Walks.{few-entries, numbers-length}
use Rattle.bundle_capi.specs.Entries.{bundle_refused, bundle_answer, bundle_after, BundleEntered, list_of, ListEntered}
use Rattle.bundle_capi.specs.declared.ListAnswer.{ListAnswer}

padded-length : (n : ℕ) (l : List ℕ) → length l ≤ n → length (padded n l) ≡ n
unfolding padded
padded-length n l h = length-append l (replicate (n - length l) 0) ∙ rw (length-replicate {A = ℕ} (n - length l) 0) (omega (arith, h))

padded-take : (n : ℕ) (l : List ℕ) → take (length l) (padded n l) ≡ l
unfolding padded
padded-take n l = take_at l (replicate (n - length l) 0) (length l) refl

padded-front : (n : ℕ) (l : List ℕ) → length l ≤ n → part (padded n l) 0 (length l) ≡ l
padded-front n l h = elements-take 0 (padded n l) 0 (length l) (omega (arith, padded-length n l h, h)) ∙ padded-take n l

module _ (s : List ℕ) {b : Bundle} (e : b ≡ bundle_of (walk s)) where
  count : b.count ≡ length (walk s).entries
  count = ap (λ (x : Bundle). x.count) e

  number : b.number ≡ (walk s).stop
  number = ap (λ (x : Bundle). x.number) e

  small : length (numbers_from 0 (walk s).entries) ≤ 768
  small = omega (arith, numbers-length 0 (walk s).entries, few-entries s)

  pub few : b.count ≤ 256
  few = rw count (few-entries s)

  pub numbers-size : length b.numbers ≡ 768
  numbers-size = ap (λ (x : Bundle). length x.numbers) e ∙ padded-length 768 (numbers_from 0 (walk s).entries) small

  numbers-front : part b.numbers 0 (b.count * 3) ≡ numbers_from 0 (walk s).entries
  numbers-front =
      let l = numbers_from 0 (walk s).entries in
      let q : b.count * 3 ≡ length l = rw count (sym (numbers-length 0 (walk s).entries)) in
      ap (λ (x : List ℕ). part x 0 (b.count * 3)) (ap (λ (x : Bundle). x.numbers) e) ∙ rw q (padded-front 768 l small)

  pub read-stops : (o : List ℕ) → (b.number ≡ 0 → ⊥) → BundleEntered (walk s) o o (bundle_refused b.number b.end)
  unfolding bundle_answer bundle_after
  read-stops o n =
      let z : eqb (walk s).stop 0 ≡ false = ne_eqb (walk s).stop 0 (λ q. n (number ∙ q)) in
      let y : b.end ≡ (walk s).end = ap (λ (x : Bundle). x.end) e in
      record { answer = rw (z, number, y); after = rw z }

  module _ (n : b.number ≡ 0) where
    good : eqb (walk s).stop 0 ≡ true
    good = eq-eqb (walk s).stop 0 (sym number ∙ n)

    pub read_small : (o : List ℕ) → length o < b.count * 3 → BundleEntered (walk s) o o (bundle_refused no_room 0)
    unfolding bundle_answer bundle_after
    read_small o h =
        let z : leb (length (walk s).entries * 3) (length o) ≡ false = lt-leb (length (walk s).entries * 3) (length o) (rw (← count) h) in
        record { answer = rw (good, z); after = rw (good, z) }

    pub read_done : {o o' : List ℕ} → b.count * 3 ≤ length o → o' ≡ splice o 0 (part b.numbers 0 (b.count * 3))
        → BundleEntered (walk s) o o' (record { number = 0; place = b.end; count = b.count })
    unfolding bundle_answer bundle_after
    read_done {o} {o'} h q =
        let z : leb (length (walk s).entries * 3) (length o) ≡ true = le-leb (length (walk s).entries * 3) (length o) (rw (← count) h) in
        let y : b.end ≡ (walk s).end = ap (λ (x : Bundle). x.end) e in
        record { answer = rw (good, z, count, y); after = q ∙ rw (numbers-front, good, z) }

-- the list's entry
pub list-entered : {y : Reply} {o o' : List ℕ} {w : Written} {r : ListAnswer} → Served y o o' w → r ≡ list_of w → ListEntered y o o' r
list-entered h e = record { answer = e ∙ ap list_of h.answer; after = h.after }
