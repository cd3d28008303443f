-- A reader's answer by value is what its definition says, where the ranges were zero before.
use Prim.Native.Nat.{ℕ, zero, suc, ◌+◌, ◌-◌, ◌*◌, ◌≤◌}
use mathlib.Core.Path.{◌≡◌, refl, sym, ap, subst, ◌∙◌}
use mathlib.Core.Bool.{false}
use mathlib.Core.List.{List, ◌++◌}
use native.Mathlib.Omega.{arith}
use lib.ListN.{length, take, drop, replicate, length-replicate, length-append}
use lib.Seq.{take_at}
use Rattle.octets.specs.Limits.{lines_most, informational_most}
use Rattle.script.specs.Script.{Answer, accepted, refused, more}
use Rattle.output.specs.Splice.{splice}
use Rattle.output.proofs.Laws.{splice-is, splice-length}
use Rattle.messages.specs.Message.{FieldRead, InformationalRead, Start, request_start, response_start, is_response, Message}
use Rattle.messages.specs.Names.{kept, kept_trailers}
use Rattle.messages.specs.Answers.{chunks_numbers, informational_numbers, informational_lines, informational_in, padded, ranges_of, record_of, reading_of}
use Rattle.messages.specs.declared.Ranges.{Ranges}
use Rattle.messages.specs.Answers.{Outcome}
use Rattle.std.proofs.Common.{Ok}
use Rattle.sound.specs.Sound.{Sound, GoodHeads}
use Rattle.ranges.specs.Entries.{fields_before}
use Rattle.ranges.specs.Ranges.{Stores, head_numbers, trailer_numbers, OutcomeSays, Outcomed, InformationalSays, Responded, ranges_with, CountsWithin, cleared_from, reading_from}
use Rattle.ranges.proofs.Stored.{numbers-length}
use Rattle.ranges.proofs.Storing.{stores-splice, stores-begins}
use Rattle.ranges.proofs.Outcomes.{record-heads, record-headers, record-trailers, sound-small, heads-few, informational-small, chunks-small}
use Rattle.ranges.proofs.Entries.{before-none, before-are}

zeros : (n k : ℕ) → n ≡ k → replicate n 0 ≡ replicate {A = ℕ} k 0
zeros n k e = ap (λ (j : ℕ). replicate j 0) e

drop-zeros : (k n : ℕ) → drop {A = ℕ} k (replicate n 0) ≡ replicate (n - k) 0
drop-zeros zero n = zeros n (n - 0) (omega arith)
drop-zeros (suc k) zero = zeros 0 (0 - suc k) (omega arith)
drop-zeros (suc k) (suc n) = drop-zeros k n ∙ zeros (n - k) (suc n - suc k) (omega arith)

-- numbers stored at the front of zeros
pub zeros-padded : {o : List ℕ} (n : ℕ) (l : List ℕ) → length l ≤ n → o ≡ splice (replicate n 0) 0 l → o ≡ padded n l
unfolding padded
zeros-padded n l h e =
    let z : 0 + length l ≤ length {A = ℕ} (replicate n 0) = omega (arith, length-replicate {A = ℕ} n 0, h) in
    e ∙ splice-is (replicate n 0) 0 l z ∙ ap (λ (r : List ℕ). l ++ r) (drop-zeros (0 + length l) n ∙ zeros (n - (0 + length l)) (n - length l) (omega arith))

-- numbers that are stored at the front of n numbers, and all behind them cleared
cleared-padded : {o o' : List ℕ} (n k : ℕ) (l : List ℕ) → Stores o 0 l o' → length o ≡ n → k ≡ length l → cleared_from k o' ≡ padded n l
unfolding padded
cleared-padded {o} {o'} n k l x e h =
    let b = stores-begins x in
    let t : take k o' ≡ l = ap (take k) b.split ∙ take_at l b.others k (sym h) in
    rw t (ap (λ (r : List ℕ). l ++ r) (zeros (length o' - k) (n - length l) (omega (arith, x.altered.size, e, h))))

ranges-are : {ns hs ts cs : List ℕ} (m : Message) → ns ≡ padded 8 (informational_numbers (informational_in m.start)) → hs ≡ padded 1280 (head_numbers m)
    → ts ≡ padded 256 (trailer_numbers m) → cs ≡ padded 512 (chunks_numbers m.chunks)
    → ranges_with ns hs ts cs ≡ ranges_of m
unfolding ranges_of
ranges-are m a b c d = cc

-- how many fields informational heads have, by the numbers that were stored of them
heads-before : (is : List InformationalRead) (ns : List ℕ) {ns' : List ℕ} → length (informational_numbers is) ≤ length ns → ns' ≡ splice ns 0 (informational_numbers is)
    → fields_before ns' (length is) ≡ length (informational_lines is)
heads-before is ns {ns'} h e =
    let r : 0 * 2 + length (informational_numbers is) ≤ length ns = omega arith in
    let y = (stores-splice e r).lies in
    let z : 0 + length is ≡ length is = omega arith in
    let q : fields_before ns' (length is) ≡ fields_before ns' 0 + length (informational_lines is) = rw z at (before-are ns' 0 is y) in
    omega (arith, q, before-none ns')

heads-fit : (st : Start) → GoodHeads st → length (informational_lines (informational_in st)) ≤ informational_most * lines_most
unfolding informational_lines
heads-fit (request_start q c a p) g = omega arith
heads-fit (response_start hs c) g = omega (arith, heads-few hs g.0, g.1)

-- the counts of a message in the ranges that were left
module _ (s : List ℕ) (n : ℕ) (m : Message) (k : Sound s m) {ns' : List ℕ} (i : ns' ≡ splice (replicate 8 0) 0 (informational_numbers (informational_in m.start))) where
  abbrev is : List InformationalRead
  is = informational_in m.start

  before : fields_before ns' (record_of n m).informational ≡ length (informational_lines is)
  before = ap (fields_before ns') (record-heads n m) ∙ heads-before is (replicate 8 0) (omega (arith, informational-small k, length-replicate {A = ℕ} 8 0)) i

  fields-counted : (fields_before ns' (record_of n m).informational + (record_of n m).headers) * 4 ≡ length (head_numbers m)
  fields-counted =
      let fs : List FieldRead = kept (is_response m.start) m.lines in
      omega (arith, before, record-headers n m, numbers-length (informational_lines is ++ fs), length-append (informational_lines is) fs)

  counts : CountsWithin (Ok (record_of n m)) ns'
  counts = (
    sound-small s n m k,
    omega (arith, ap length i, splice-length (replicate 8 0) 0 (informational_numbers is), length-replicate {A = ℕ} 8 0),
    omega (arith, before, heads-fit m.start k.heads),
  )

trailers-counted : (n : ℕ) (m : Message) → (record_of n m).trailers * 4 ≡ length (trailer_numbers m)
trailers-counted n m = omega (arith, record-trailers n m, numbers-length (kept_trailers m.trailers))

module _ {x : Answer Message} {hs' ns' cs' ts' : List ℕ} {o : Outcome} (s : List ℕ)
    (h : Responded x (replicate 1280 0) hs' (replicate 8 0) ns' (replicate 512 0) cs' (replicate 256 0) ts' o)
    (sound : (n : ℕ) (m : Message) → x ≡ accepted n m → Sound s m) where
  pub counts-within : CountsWithin o ns'
  counts-within = go x h.says h.informational sound
    where
      go : (y : Answer Message) → OutcomeSays y (replicate 1280 0) hs' (replicate 512 0) cs' (replicate 256 0) ts' o → InformationalSays y (replicate 8 0) ns'
          → ((n : ℕ) (m : Message) → y ≡ accepted n m → Sound s m) → CountsWithin o ns'
      go (accepted n m) q i z = subst (λ (w : Outcome). CountsWithin w ns') (sym q.0) (counts s n m (z n m refl) i)
      go (refused k p) q i z = subst (λ (w : Outcome). CountsWithin w ns') (sym q) tt
      go more q i z = subst (λ (w : Outcome). CountsWithin w ns') (sym q) tt

  pub by_value : reading_from o ns' hs' ts' cs' ≡ reading_of x
  by_value = go x h.says h.informational sound
    where
      go : (y : Answer Message) → OutcomeSays y (replicate 1280 0) hs' (replicate 512 0) cs' (replicate 256 0) ts' o → InformationalSays y (replicate 8 0) ns'
          → ((n : ℕ) (m : Message) → y ≡ accepted n m → Sound s m) → reading_from o ns' hs' ts' cs' ≡ reading_of y
      go (accepted n m) q i z =
          let k = z n m refl in
          ap (λ (w : Outcome). reading_from w ns' hs' ts' cs') q.0
          ∙ ap (λ (r : Ranges). record { outcome = Ok (record_of n m); ranges = r })
          (ranges-are m (zeros-padded 8 _ (informational-small k) i) (cleared-padded 1280 _ _ q.1 (length-replicate {A = ℕ} 1280 0) (fields-counted s n m k i))
          (cleared-padded 256 _ _ q.3 (length-replicate {A = ℕ} 256 0) (trailers-counted n m)) (zeros-padded 512 _ (chunks-small k) q.2))
      go (refused k p) q i z = ap (λ (w : Outcome). reading_from w ns' hs' ts' cs') q
      go more q i z = ap (λ (w : Outcome). reading_from w ns' hs' ts' cs') q

-- a request has no informational heads
pub requested : {x : Answer Message} {hs hs' cs cs' ts ts' : List ℕ} {o : Outcome} (ns : List ℕ) → Outcomed x hs hs' cs cs' ts ts' o
    → ((n : ℕ) (m : Message) → x ≡ accepted n m → is_response m.start ≡ false) → Responded x hs hs' ns ns cs cs' ts ts' o
unfolding informational_numbers
requested {x} ns h r = record { says = h.says; informational = go x r }
  where
    at : (st : Start) → is_response st ≡ false → ns ≡ splice ns 0 (informational_numbers (informational_in st))
    at (request_start q c a p) e = refl
    at (response_start hs c) e = let z : ◌≡◌ {A = ℕ} 0 1 = cc in absurd (omega arith)

    go : (y : Answer Message) → ((n : ℕ) (m : Message) → y ≡ accepted n m → is_response m.start ≡ false) → InformationalSays y ns ns
    go (accepted n m) z = at m.start (z n m refl)
    go (refused k p) z = tt
    go more z = tt
