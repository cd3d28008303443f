-- What the code of the listing promises, in terms of `rows` and `listing_of` (Listing; 01, "Examples": a listing program), and how long the text is that it
-- puts.
use Rattle.std.specs.Prelude.{ℕ, ◌+◌, ◌*◌, cond, List, ◌++◌, length, drop}
use Rattle.octets.specs.Text.{is_empty}
use Rattle.octets.specs.Limits.{listing_most}
use Rattle.octets.specs.Refusals.{more_needed}
use Rattle.numbers.specs.Digits.{digits, count_of}
use Rattle.script.specs.Script.{Answer, accepted, refused, more}
use Rattle.stream.specs.Taking.{take_off}
use Rattle.messages.specs.Message.{Message}
use Rattle.messages.specs.Meaning.{meaning}
use Rattle.http1_lines.specs.Read.{read_request}
use Rattle.messages.specs.Told.{plain}
use Rattle.listing.specs.Listing.{lf, column, rows}
use Rattle.listing.specs.declared.Row.{Row}
use Rattle.listing.specs.declared.Row.TheVariants as row

-- what the reader answers at the place `at` of a stream, of which r is left
abbrev pub row_of : ℕ → List ℕ → Answer Message → Row
row_of at r (accepted n m) = row.Message n (length (meaning m).headers) (length (meaning m).content) (length (meaning m).trailers)
row_of at r (refused k p) = row.Stop (at + p) k
row_of at r more = cond (is_empty r) (row.Stop at 0) (row.Stop (at + length r) more_needed)

-- the row of the message, or the stop, at a place of the stream
unfoldable pub row_at : List ℕ → ℕ → Row
row_at s at = row_of at (drop at s) (read_request (plain 0) (drop at s))

-- the rows from a place of the stream on, the first with the number i
unfoldable pub rows_at : List ℕ → ℕ → ℕ → List ℕ
rows_at s i at = rows i at (take_off (read_request (plain 0)) (drop at s))

-- the last three columns, by their numbers
abbrev pub counts_text : ℕ → ℕ → ℕ → List ℕ
counts_text f c t = column f ++ column c ++ digits 10 t ++ lf

-- a row, by its numbers
abbrev pub row_text : ℕ → ℕ → ℕ → ℕ → ℕ → ℕ → List ℕ
row_text i at n f c t = column i ++ column at ++ column n ++ counts_text f c t

-- how long the first line is
abbrev pub title_size : ℕ
title_size = 45

-- how long a column is, with the space or LF behind it
abbrev pub column_size : ℕ → ℕ
column_size n = count_of 10 n + 1

-- a number below 2^64 has at most 20 digits
abbrev pub column_most : ℕ
column_most = 21

-- three columns
abbrev pub three_size : ℕ → ℕ → ℕ → ℕ
three_size a b c = column_size a + column_size b + column_size c

-- a row
abbrev pub row_size : ℕ → ℕ → ℕ → ℕ → ℕ → ℕ → ℕ
row_size i at n f c t = three_size i at n + three_size f c t

-- at most
abbrev pub row_most : ℕ
row_most = 6 * column_most

-- the last line
abbrev pub end_size : ℕ → ℕ → ℕ
end_size place number = 4 + column_size place + column_size number

-- at most
abbrev pub end_most : ℕ
end_most = 4 + 2 * column_most

-- all rows with the last line, at most: a message has at least one octet
abbrev pub rows_most : ℕ
rows_most = listing_most * row_most + end_most
