-- The length line by its numbers: which it is, and its three cases.
-- Assumes nothing.
use Prim.Native.Nat.{ℕ, ◌+◌, ◌-◌, ◌≤◌}
use mathlib.Core.Path.{◌≡◌, refl, sym, ap, ◌∙◌}
use mathlib.Core.Bool.{Bool, true, false}
use mathlib.Core.List.{List, [], ◌++◌, append-nil}
use borrow.Author.Tests.{ne_eqb}
use native.Mathlib.Omega.{arith}
use native.Mathlib.Nat.{add-sub_cancel_left}
use lib.ListN.{length, take, drop, length-append}
use Rattle.octets.specs.Ascii.{ascii}
use Rattle.numbers.specs.Digits.{digits, count_of}
use Rattle.numbers.proofs.DigitLaws.{digits-length}
use Rattle.messages.specs.declared.Record.{Record}
use Rattle.messages.specs.Control.{ends_at_head}
use Rattle.messages.specs.Meaning.{length_field}
use Rattle.messages.specs.declared.Told.{Told}
use Rattle.http1_writer.specs.Write.{crlf, field_text, coding_field, is_get_or_head, is_silent, stated_line}
use Rattle.ranges.specs.Entries.{part_in}
use Rattle.messages.specs.Told.{is_yes}
use Rattle.output.specs.Splice.{part}
use Rattle.output.proofs.Laws.{elements-take}
use Rattle.http1_writer.specs.Numbered.{unmeasured_in, length_line_in, lines_text, length_text, length_size, length_count}
use Rattle.http1_writer.specs.declared.LengthLine.{LengthLine}
use Rattle.http1_writer.specs.declared.LengthLine.TheVariants.{Nothing, Length, Chunked}

-- whether a request with empty content goes without it
pub silent-former : (t : Told) (m : List ℕ) {r : Bool} → r ≡ is_yes t.former → r ≡ true → true ≡ is_silent t m
unfolding is_silent
silent-former t m e h = rw (sym e ∙ h)

pub silent-method : (t : Told) (s : List ℕ) (a n : ℕ) {b r : Bool} → a + n ≤ length s → r ≡ is_yes t.former → r ≡ false
    → b ≡ is_get_or_head (take (a + n - a) (drop a s)) → b ≡ is_silent t (part s a n)
unfolding is_silent
silent-method t s a n w e h q =
    let z : take (a + n - a) (drop a s) ≡ part s a n = rw (add-sub_cancel_left a n) (sym (elements-take 0 s a n w)) in
    rw (sym e ∙ h) (q ∙ ap is_get_or_head z)

module _ (t : Told) (s : List ℕ) (r : Record) where
  -- whether it says how long the content is
  pub unmeasured-response : r.response ≡ true → ends_at_head t r.status ≡ unmeasured_in t s r
  unfolding unmeasured_in
  unmeasured-response e = rw e

  pub unmeasured-empty : r.response ≡ false → r.content ≡ 0 → is_silent t (part_in s r.method) ≡ unmeasured_in t s r
  unfolding unmeasured_in
  unmeasured-empty e z = rw (e, z)

  pub unmeasured-full : r.response ≡ false → (r.content ≡ 0 → ⊥) → false ≡ unmeasured_in t s r
  unfolding unmeasured_in
  unmeasured-full e z = rw (e, ne_eqb r.content 0 z)

  -- which it is
  pub line-stated : r.trailers ≡ 0 → unmeasured_in t s r ≡ true → stated_line r.stated ≡ length_line_in t s r
  unfolding length_line_in unmeasured_in
  line-stated z u = rw (z, u)

  pub line-length : r.trailers ≡ 0 → unmeasured_in t s r ≡ false → Length r.content ≡ length_line_in t s r
  unfolding length_line_in unmeasured_in
  line-length z u = rw (z, u)

  pub line-chunked : (r.trailers ≡ 0 → ⊥) → Chunked ≡ length_line_in t s r
  unfolding length_line_in
  line-chunked z = rw (ne_eqb r.trailers 0 z)

-- a length line: what is written, how long it is, how many lines it is
pub record LengthIs (l : LengthLine) (w : List ℕ) (n k : ℕ) : Type 0 where
  pub text : length_text l ≡ w
  pub size : length_size l ≡ n
  pub count : length_count l ≡ k

pub is_none : {l : LengthLine} → l ≡ Nothing → LengthIs l [] 0 0
unfolding length_text length_size length_count lines_text
is_none e = rw e (record { text = refl; size = refl; count = refl })

pub is-length : {l : LengthLine} {n : ℕ} → l ≡ Length n → LengthIs l (ascii "content-length: " ++ digits 10 n ++ crlf) (16 + count_of 10 n + 2) 1
unfolding length_text length_size length_count lines_text field_text length_field
is-length {l} {n} e = rw e (record { text = append-nil _; size = simp (length-append, digits-length) (omega arith); count = refl })

pub is-chunked : {l : LengthLine} → l ≡ Chunked → LengthIs l (ascii "transfer-encoding: chunked\r\n") 28 1
unfolding length_text length_size length_count lines_text field_text coding_field
is-chunked e = rw e (record { text = refl; size = refl; count = refl })
