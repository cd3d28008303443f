-- The tests of a message by its numbers, case by case.
-- Assumes nothing.
use Prim.Native.Nat.{ℕ, ◌+◌}
use mathlib.Core.Path.{◌≡◌}
use mathlib.Core.Bool.{true, false}
use mathlib.Core.List.{List}
use borrow.Author.Tests.{ne_eqb}
use lib.Dec.{eqb, leb}
use Rattle.octets.specs.Limits.{head_most, lines_most, trailer_most}
use Rattle.messages.specs.declared.Told.{Told}
use Rattle.messages.specs.declared.Record.{Record}
use Rattle.http1_writer.specs.declared.LengthLine.{LengthLine}
use Rattle.http1_writer.specs.Numbered.{section_size, length_count, head_count, trailers_fit, fits_in, connected_in}

module _ (r : Record) where
  pub connected-response : (t : Told) → r.response ≡ true → true ≡ connected_in t r
  unfolding connected_in
  connected-response t e = rw e

  pub connected-request : (t : Told) → r.response ≡ false → eqb r.scheme t.scheme ≡ connected_in t r
  unfolding connected_in
  connected-request t e = rw e

  pub count-response : (l : LengthLine) → r.response ≡ true → head_count r l ≡ 0 + length_count l + r.headers
  unfolding head_count
  count-response l e = rw e

  pub count-request : (l : LengthLine) → r.response ≡ false → head_count r l ≡ 1 + length_count l + r.headers
  unfolding head_count
  count-request l e = rw e

module _ (ts : List ℕ) (count : ℕ) where
  pub trailers-none : count ≡ 0 → true ≡ trailers_fit ts count
  unfolding trailers_fit
  trailers-none z = rw z

  pub trailers-some : (count ≡ 0 → ⊥) → leb (section_size ts 0 count) trailer_most ≡ trailers_fit ts count
  unfolding trailers_fit
  trailers-some z = rw (ne_eqb count 0 z)

-- the three tests one after the other
module _ (head : ℕ) (r : Record) (l : LengthLine) (ts : List ℕ) where
  pub fits_head : leb head head_most ≡ false → false ≡ fits_in head r l ts
  unfolding fits_in
  fits_head e = rw e

  pub fits-lines : leb head head_most ≡ true → leb (head_count r l) lines_most ≡ false → false ≡ fits_in head r l ts
  unfolding fits_in
  fits-lines e f = rw (e, f)

  pub fits-trailers : leb head head_most ≡ true → leb (head_count r l) lines_most ≡ true → trailers_fit ts r.trailers ≡ fits_in head r l ts
  unfolding fits_in
  fits-trailers e f = rw (e, f)
