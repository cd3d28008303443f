-- From a bundle by value to what is kept of it, and how long the line is.
use Prim.Native.Nat.{ℕ, ◌+◌, ◌-◌, ◌≤◌, ◌<◌}
use mathlib.Core.Path.{◌≡◌, ap, ◌∙◌}
use mathlib.Core.Bool.{Bool, true, false, cond}
use mathlib.Core.List.{List}
use native.Mathlib.Omega.{arith}
use borrow.Author.Tests.{le-leb, lt-leb}
use lib.Dec.{leb}
use lib.ListN.{length, length-append}
use lib.Seq.{length-take-le}
use Rattle.octets.specs.Refusals.{no_room}
use Rattle.numbers.proofs.DigitLaws.{digits-length, count_most}
use Rattle.output.specs.Splice.{part, may_copy, PutIf}
use Rattle.output.specs.Reply.{writes, lent_after, Served, Written}
use Rattle.output.proofs.Laws.{elements-take}
use Rattle.output.proofs.Room.{put_of}
use Rattle.bundle.specs.Bundle.{walk}
use Rattle.bundle.specs.Answers.{bundle_of}
use Rattle.bundle.specs.Salvage.{salvage_of}
use Rattle.bundle.specs.declared.Bundle.{Bundle}
use Rattle.bundle.proofs.Walks.{end-within}
use Rattle.salvaging.specs.Answers.{front_of, keeps_nothing, salvaged_of, Salvages}
use Rattle.salvaging.specs.Line.{line_of, input_most, too_much, salvage_line, line_size, line_most}
use Rattle.salvaging.specs.declared.Front.{Front}

-- ---- the front

pub kept-length : (s : List ℕ) → length (salvage_of s).octets ≡ (walk s).end
unfolding salvage_of
kept-length s = length-take-le (walk s).end s (end-within s)

module _ (s : List ℕ) {b : Bundle} (e : b ≡ bundle_of (walk s)) where
  pub ended : b.end ≤ length s
  ended = rw e (end-within s)

  pub by_value : record { entries = b.count; kept = b.end; left = length s - b.end; stop = b.number } ≡ front_of (salvage_of s)
  unfolding salvage_of
  by_value = rw (e, length-take-le (walk s).end s (end-within s))

-- ---- the copy

module _ (s : List ℕ) {f : Front} (e : f ≡ front_of (salvage_of s)) where
  kept : f.kept ≡ length (salvage_of s).octets
  kept = ap (λ (x : Front). x.kept) e

  pub no-room : {o : List ℕ} → length o < f.kept → Salvages s o o (keeps_nothing no_room 0)
  unfolding salvaged_of lent_after
  no-room {o} h =
      let z : leb (length (salvage_of s).octets) (length o) ≡ false = lt-leb (length (salvage_of s).octets) (length o) (rw (← kept) h) in
      record { answer = rw z; after = rw z }

  copied : part s 0 f.kept ≡ (salvage_of s).octets
  unfolding salvage_of
  copied =
      let k : f.kept ≡ (walk s).end = kept ∙ kept-length s in
      rw k (elements-take 0 s 0 (walk s).end (omega (arith, end-within s)))

  pub salvaged : {o o' : List ℕ} {n : ℕ} → f.kept ≤ length o → PutIf (may_copy s 0 f.kept o 0) o 0 (part s 0 f.kept) f.kept o' n
      → Salvages s o o' (record { number = 0; place = 0; entries = f.entries; kept = n; left = f.left; stop = f.stop })
  unfolding salvaged_of lent_after
  salvaged {o} {o'} {n} h p =
      let i : f.kept ≤ length s = omega (arith, kept, kept-length s, end-within s) in
      let q = put_of (rw (le-leb (0 + f.kept) (length s) (omega (arith, i)), le-leb (0 + f.kept) (length o) (omega (arith, h)))) p in
      let k : n ≡ f.kept = omega (arith, q.next) in
      let z : leb (length (salvage_of s).octets) (length o) ≡ true = le-leb (length (salvage_of s).octets) (length o) (rw (← kept) h) in
      record { answer = rw (z, k, e); after = rw z (q.all ∙ rw copied) }

-- ---- the line

pub line-length : (f : Front) → length (line_of f) ≡ line_size f
line-length f = simp (length-append, digits-length) (omega arith)

pub line-most : (f : Front) → length (line_of f) ≤ line_most
line-most f = omega (arith, line-length f, count_most 10 f.entries, count_most 10 f.kept, count_most 10 f.left, count_most 10 f.stop)

pub line-whole : (s : List ℕ) {o o' : List ℕ} {w : Written} {f : Front} → length s ≤ input_most → f ≡ front_of (salvage_of s)
    → Served (writes (line_of f)) o o' w → Served (writes (salvage_line s)) o o' w
unfolding salvage_line
line-whole s h e p = rw (le-leb (length s) input_most h) (rw e at p)

pub line-large : (s : List ℕ) {o o' : List ℕ} {w : Written} → input_most < length s → Served (writes (line_of too_much)) o o' w
    → Served (writes (salvage_line s)) o o' w
unfolding salvage_line
line-large s h p = rw (lt-leb (length s) input_most h) p

pub salvage-most : (s : List ℕ) → length (salvage_line s) ≤ line_most
unfolding salvage_line
salvage-most s = go (leb (length s) input_most)
  where
    go : (b : Bool) → length (cond b (line_of (front_of (salvage_of s))) (line_of too_much)) ≤ line_most
    go true = line-most (front_of (salvage_of s))
    go false = line-most too_much
