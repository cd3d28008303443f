-- Laws of what a public writer answers and leaves.
-- Assumes nothing.
use mathlib.Core.Path.{◌≡◌, refl, ◌∙◌}
use mathlib.Core.Bool.{Bool, true, false, cond}
use mathlib.Core.List.{List, ◌++◌, append-nil}
use Prim.Native.Nat.{ℕ, ◌+◌, ◌-◌, ◌≤◌, ◌<◌}
use native.Mathlib.Omega.{arith}
use lib.Dec.{leb}
use lib.ListN.{length, take, drop, length-drop, take-append-drop, drop_of_length-le}
use lib.Seq.{take_all}
use borrow.Rule.Slice.PartMut.{put_mid}
use native.Mathlib.Nat.{add-zero}
use Rattle.output.proofs.Laws.{splice-lend}
use borrow.Author.Tests.{le-leb, lt-leb, leb-true, leb-false}
use Rattle.octets.specs.Refusals.{no_room, refused_at}
use Rattle.output.specs.Splice.{splice, Put}
use Rattle.output.specs.Reply.{Reply, writes, refuses, written_of, lent_after, Served, lent_after_at, ServedAt, Written}
use Rattle.std.proofs.Common.{Ok, Err}

pub serve-wrong : (o : List ℕ) (k p : ℕ) → Served (refuses k p) o o (Err (refused_at k p))
unfolding written_of lent_after
serve-wrong o k p = record { answer = refl; after = refl }

pub serve-small : {o bs : List ℕ} → length o < length bs → Served (writes bs) o o (Err (refused_at no_room 0))
unfolding written_of lent_after
serve-small {o} {bs} h = record { answer = simp (lt-leb _ _ h); after = simp (lt-leb _ _ h) }

pub serve-done : {o bs o' : List ℕ} {n r : ℕ} → n ≤ length o → Put o 0 bs n o' r → Served (writes bs) o o' (Ok r)
unfolding written_of lent_after
serve-done {o} {bs} {o'} {n} {r} h p =
    let k : length bs ≤ length o = omega (arith, p.size) in
    let e : r ≡ length bs = omega (arith, p.size, p.next) in
    record { answer = rw e (simp (le-leb _ _ k)); after = simp (le-leb _ _ k) p.all }

-- ---- a part that is lent

-- the whole, with a tail put back
pub put-tail : (k : ℕ) (o e : List ℕ) → k ≤ length o → put_mid k (length o - k) o e ≡ take k o ++ e
put-tail k o e h =
    let g : length (drop k o) ≤ length o - k = rw length-drop (omega arith) in
    rw (drop_of_length-le (drop k o) g, append-nil)

pub lent-tail : (k : ℕ) (o : List ℕ) → take (length o - k) (drop k o) ≡ drop k o
lent-tail k o =
    let g : length (drop k o) ≤ length o - k = rw length-drop (omega arith) in
    take_all (length o - k) (drop k o) g

tail-case : (bs : List ℕ) (k : ℕ) (o : List ℕ) (b : Bool) → k ≤ length o → leb (length bs) (length (drop k o)) ≡ b
    → take k o ++ cond b (splice (drop k o) 0 bs) (drop k o) ≡ cond (leb (k + length bs) (length o)) (splice o k bs) o
tail-case bs k o true h e =
    let g = rw length-drop at (leb-true (length bs) (length (drop k o)) e) in
    let m : k + length bs ≤ length o = omega arith in
    simp (le-leb _ _ m) (splice-lend o k 0 bs ∙ rw add-zero)
tail-case bs k o false h e =
    let g = rw length-drop at (leb-false (length bs) (length (drop k o)) e) in
    let m : length o < k + length bs = omega arith in
    simp (lt-leb _ _ m) (take-append-drop k o)

pub after_tail : (y : Reply) (k : ℕ) (o : List ℕ) → k ≤ length o → take k o ++ lent_after y (drop k o) ≡ lent_after_at y k o
unfolding lent_after lent_after_at
after_tail (writes bs) k o h = tail-case bs k o (leb (length bs) (length (drop k o))) h refl
after_tail (refuses n p) k o h = take-append-drop k o

pub serve-tail : {y : Reply} {k : ℕ} {o e : List ℕ} {r : Written} → k ≤ length o
    → Served y (take (length o - k) (drop k o)) e r → ServedAt y k o (put_mid k (length o - k) o e) r
serve-tail {y} {k} {o} {e} {r} h s =
    let t = rw (lent-tail k o) at s in
    record {
      answer = t.answer ∙ rw length-drop;
      after = put-tail k o e h ∙ rw t.after (after_tail y k o h);
    }
