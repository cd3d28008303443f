-- What copies of slices leave, said by `splice`.
-- Assumes nothing.
use Prim.Native.Nat.{ℕ, ◌+◌, ◌≤◌}
use mathlib.Core.Path.{◌≡◌, sym, ap, ◌∙◌}
use mathlib.Core.List.{List, ◌++◌, append_assoc}
use native.Mathlib.Omega.{arith}
use lib.ListN.{length, take, drop, length-take, length-drop}
use lib.Seq.{drop-drop, paste}
use borrow.Rule.Slice.PartMut.{put_mid}
use Rattle.output.specs.Splice.{splice, part}
use Rattle.output.proofs.Laws.{splice-is, elements-take, elements-length}

-- the n octets from the place `at` on are those of l: e is what the slice `at..at + n` holds afterwards
pub splice-copied : (o : List ℕ) (at n : ℕ) {k : ℕ} {e l : List ℕ} → k ≡ n → e ≡ l → length l ≡ n → at + n ≤ length o → put_mid at k o e ≡ splice o at l
splice-copied o at n {k} {e} {l} z q s h =
    let y : at + length l ≡ at + n = omega arith in
    let room : at + length l ≤ length o = omega arith in
    rw (z, q) (sym (splice-is o at l room ∙ append_assoc (take at o) l (drop (at + length l) o) ∙ ap (λ (d : List ℕ). take at o ++ (l ++ d)) (ap (λ (i : ℕ). drop i o) y ∙ sym (drop-drop n at o))))

-- and of a part of a source
pub splice-part : (o s : List ℕ) (at from n : ℕ) {k : ℕ} {e : List ℕ} → k ≡ n → e ≡ take n (drop from s) → from + n ≤ length s → at + n ≤ length o
    → put_mid at k o e ≡ splice o at (part s from n)
splice-part o s at from n z q i h =
    let p : part s from n ≡ take n (drop from s) = elements-take 0 s from n i in
    let y : length (take n (drop from s)) ≡ n = omega (arith, length-take n (drop from s), length-drop from s) in
    splice-copied o at n z (q ∙ sym p) (ap length p ∙ y) h

-- octets moved within a list, as `copy_within` says it
pub splice-within : (o : List ℕ) (to from n : ℕ) {k : ℕ} {e : List ℕ} → k ≡ n → e ≡ paste o to (drop from o) k → from + n ≤ length o → to + n ≤ length o
    → e ≡ splice o to (part o from n)
splice-within o to from n z q i h =
    let p : part o from n ≡ take n (drop from o) = elements-take 0 o from n i in
    let y : to + length (part o from n) ≡ to + n = omega (arith, elements-length 0 o from n) in
    let room : to + length (part o from n) ≤ length o = omega arith in
    let s : splice o to (part o from n) ≡ take to o ++ (part o from n ++ drop (to + n) o) =
    splice-is o to (part o from n) room ∙ append_assoc (take to o) (part o from n) (drop (to + length (part o from n)) o)
    ∙ ap (λ (j : ℕ). take to o ++ (part o from n ++ drop j o)) y in
    q ∙ rw (z, s, p) (append_assoc (take to o) (take n (drop from o)) (drop (to + n) o))
