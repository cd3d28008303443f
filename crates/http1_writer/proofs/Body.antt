-- The body of a message by its numbers: its chunk, and the two forms of a body.
-- Assumes nothing.
use Prim.Native.Nat.{ℕ, zero, suc, ◌+◌}
use mathlib.Core.Path.{◌≡◌, refl, sym, ap, ◌∙◌}
use mathlib.Core.Bool.{Bool, true, false, cond}
use mathlib.Core.List.{List, [], ◌++◌}
use native.Mathlib.Omega.{arith}
use borrow.Author.Tests.{ne_eqb}
use lib.Dec.{eqb}
use lib.ListN.{length, length-append}
use Rattle.octets.specs.Ascii.{ascii}
use Rattle.octets.specs.Text.{is_empty}
use Rattle.numbers.specs.Digits.{digits, count_of}
use Rattle.numbers.proofs.DigitLaws.{digits-length}
use Rattle.ranges.specs.Entries.{fields_in, fields_named}
use Rattle.http1_writer.specs.Write.{crlf, section_text, chunk_text, chunked_text, body_text}
use Rattle.http1_writer.specs.Numbered.{section_size, chunk_size, body_size}
use Rattle.http1_writer.proofs.Turns.{section-length}

-- ---- one chunk

module _ (w : List ℕ) (n : ℕ) (e : length w ≡ n) where
  pub chunk-empty : n ≡ 0 → (chunk_text w ≡ []) × (chunk_size n ≡ 0)
  unfolding chunk_text chunk_size is_empty
  chunk-empty z = (rw (e, z), rw z)

  pub chunk-some : (n ≡ 0 → ⊥) → (chunk_text w ≡ digits 16 n ++ crlf ++ w ++ crlf) × (chunk_size n ≡ count_of 16 n + 2 + n + 2)
  unfolding chunk_text chunk_size is_empty
  chunk-some z = (rw (e, ne_eqb n 0 z), rw (ne_eqb n 0 z))

-- ---- the two forms of a body

module _ (s ts w : List ℕ) (n count : ℕ) where
  pub body-plain : count ≡ 0 → (body_text w (fields_named s ts 0 count) ≡ w) × (body_size n ts count ≡ n)
  unfolding body_text body_size fields_in
  body-plain z = (rw z, rw z)

  pub body-chunked : (count ≡ 0 → ⊥)
      → (body_text w (fields_named s ts 0 count) ≡ chunk_text w ++ ascii "0" ++ crlf ++ section_text (fields_named s ts 0 count))
      × (body_size n ts count ≡ chunk_size n + 1 + 2 + section_size ts 0 count)
  unfolding body_text chunked_text body_size fields_in
  body-chunked z = go count z
    where
      go : (c : ℕ) → (c ≡ 0 → ⊥) → (body_text w (fields_named s ts 0 c) ≡ chunk_text w ++ ascii "0" ++ crlf ++ section_text (fields_named s ts 0 c))
          × (body_size n ts c ≡ chunk_size n + 1 + 2 + section_size ts 0 c)
      go zero z = absurd (z refl)
      go (suc c) z = (refl, rw (ne_eqb (suc c) 0 z))

-- how long they are
module _ (s ts w : List ℕ) (n : ℕ) (e : length w ≡ n) where
  pub chunk-long : length (chunk_text w) ≡ chunk_size n
  unfolding chunk_text chunk_size is_empty
  chunk-long = rw e (go (eqb n 0))
    where
      go : (b : Bool) → length (cond b [] (digits 16 n ++ crlf ++ w ++ crlf)) ≡ cond b 0 (count_of 16 n + 2 + n + 2)
      go true = refl
      go false = simp (length-append, digits-length, e) (omega arith)

  pub body-long : (count : ℕ) → length (body_text w (fields_named s ts 0 count)) ≡ body_size n ts count
  unfolding body_text chunked_text body_size fields_in
  body-long zero = e
  body-long (suc c) =
      let z : suc c ≡ 0 → ⊥ = λ q. omega arith in
      let h = body-chunked s ts w n (suc c) z in
      ap length h.0
      ∙ simp length-append (omega (arith, chunk-long, section-length s ts 0 (suc c)))
      ∙ sym h.1
