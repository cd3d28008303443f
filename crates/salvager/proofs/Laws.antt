-- A line that always fits: it is written, and stands at the start of the lent octets; what is printed of what was read.
use Prim.Native.Nat.{ℕ, ◌+◌, ◌≤◌, ◌<◌}
use mathlib.Core.Logic.{◌⊎◌, inl, inr}
use mathlib.Core.Path.{◌≡◌, refl, sym, ap, ◌∙◌, subst}
use mathlib.Core.Bool.{true}
use mathlib.Core.List.{List, ◌++◌, append-nil}
use native.Mathlib.Omega.{arith}
use borrow.Author.Tests.{le-leb, lt-leb}
use lib.Dec.{leb}
use lib.ListN.{length, length-append, take, drop}
use lib.Seq.{length-take-le, take_at}
use Rattle.std.proofs.Common.{Option, None, Some, IfSome, Ok, Err}
use Rattle.std.specs.Io.KnownBytes.{Appends, Consumes, IsAtEnd}
use Rattle.octets.proofs.Kit.{split}
use Rattle.output.specs.Splice.{splice}
use Rattle.output.specs.Reply.{writes, written_of, lent_after, Served, Written}
use Rattle.output.proofs.Laws.{splice-is, splice-length}
use Rattle.salvaging.specs.Line.{input_most, line_most, salvage_line}
use Rattle.salvaging.proofs.Laws.{salvage-most}
use Rattle.octets.specs.declared.Refused.{Refused}

module _ (s : List ℕ) {o o' : List ℕ} {w : Written} (room : line_most ≤ length o) (h : Served (writes (salvage_line s)) o o' w) where
  fits : leb (length (salvage_line s)) (length o) ≡ true
  fits = le-leb (length (salvage_line s)) (length o) (omega (arith, room, salvage-most s))

  done : w ≡ Ok (length (salvage_line s))
  unfolding written_of
  done = h.answer ∙ rw fits

  after : o' ≡ splice o 0 (salvage_line s)
  unfolding lent_after
  after = h.after ∙ rw fits

  pub not-refused : {A : Type 0} (x : Refused) → w ≡ Err x → A
  not-refused x e = let z : ◌≡◌ {A = ℕ} 0 1 = (let q : Ok (length (salvage_line s)) ≡ Err x = sym done ∙ e in cc) in absurd (omega arith)

  pub printed : {n : ℕ} → w ≡ Ok n → (n ≤ length o') × (take n o' ≡ salvage_line s)
  printed {n} e =
      let q : Ok n ≡ Ok (length (salvage_line s)) = sym e ∙ done in
      let l : n ≡ length (salvage_line s) = cc in
      let z : length o' ≡ length o = rw after (splice-length o 0 (salvage_line s)) in
      let k : n ≤ length o' = omega (arith, l, z, room, salvage-most s) in
      let i = splice-is o 0 (salvage_line s) (omega (arith, room, salvage-most s)) in
      let t : take n o' ≡ salvage_line s =
      rw (after, l, i) (take_at (salvage_line s) (drop (0 + length (salvage_line s)) o) (length (salvage_line s)) refl) in
      (k, t)

-- ---- one octet more than an input may have decides the line, whatever comes behind it

line-more : (s rest : List ℕ) → input_most < length s → salvage_line (s ++ rest) ≡ salvage_line s
unfolding salvage_line
line-more s rest h =
    let k : input_most < length (s ++ rest) = rw (length-append s rest) (omega (arith, h)) in
    rw (lt-leb _ _ h, lt-leb _ _ k)

-- what a reader gave is all that it has, or too much
read-line : (a b : Option (List ℕ)) (s : List ℕ) (P : List ℕ → Type 0) → Consumes a b s → (length s < input_most + 1 → IsAtEnd b) → P (salvage_line s)
    → IfSome a (λ x. P (salvage_line x))
read-line None b s P took end h = tt
read-line (Some x) None s P took end h = absurd took
read-line (Some x) (Some y) s P took end h = on (split (length s) (input_most + 1))
  where
    on : (length s < input_most + 1) ⊎ (input_most + 1 ≤ length s) → P (salvage_line x)
    on (inl k) = subst (λ t. P (salvage_line t)) (sym (took ∙ ap (λ t. s ++ t) (end k) ∙ append-nil s)) h
    on (inr k) = subst P (sym (ap salvage_line took ∙ line-more s y (omega (arith, k)))) h

-- ---- the whole: read as far as the buffer goes, and its line written

pub go-prints : (xs : List ℕ) (n : ℕ) (a b w w' : Option (List ℕ)) (o' : List ℕ) (k : ℕ) → n ≤ length xs → length xs ≡ input_most + 1
    → Consumes a b (take n xs) → (n < length xs → IsAtEnd b) → take k o' ≡ salvage_line (take n xs)
    → Appends w w' (take k o') → IfSome a (λ s. Appends w w' (salvage_line s))
go-prints xs n a b w w' o' k within size took end line written =
    let l = length-take-le n xs within in
    read-line a b (take n xs) (Appends w w') took (λ h. end (omega (arith, h, l, size))) (subst (Appends w w') line written)
