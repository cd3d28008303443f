-- What the listing program prints for an input (01, "Examples": a listing program).
use Rattle.std.specs.Prelude.{ℕ, ◌+◌, cond, List, [], ◌∷◌, ◌++◌, leb, length}
use Rattle.octets.specs.Ascii.{ascii}
use Rattle.octets.specs.Text.{is_empty}
use Rattle.octets.specs.Limits.{listing_most}
use Rattle.octets.specs.Refusals.{more_needed, too_large}
use Rattle.numbers.specs.Digits.{digits}
use Rattle.messages.specs.Message.{Message}
use Rattle.messages.specs.Meaning.{Meaning, meaning}
use Rattle.messages.specs.Told.{plain}
use Rattle.http1_lines.specs.Read.{read_request}
use Rattle.stream.specs.Taking.{Taken, message, waits, stops, take_off}

-- the end of a line
abbrev pub lf : List ℕ
lf = 10 ∷ []

-- a number and a space
abbrev pub column : ℕ → List ℕ
column n = digits 10 n ++ 32 ∷ []

-- kept fields, octets of content, kept trailers
abbrev pub counts : Meaning → List ℕ
counts m = column (length m.headers) ++ column (length m.content) ++ digits 10 (length m.trailers) ++ lf

-- number, place in the stream and length of a message, and its counts
unfoldable pub row : ℕ → ℕ → ℕ → Message → List ℕ
row i at n m = column i ++ column at ++ column n ++ counts (meaning m)

-- where it stops, and the refusal
unfoldable pub end_line : ℕ → ℕ → List ℕ
end_line at k = ascii "end " ++ column at ++ digits 10 k ++ lf

-- a row for each message from number i on, the first at the place `at`; then where it stops, and the refusal, or 0 where no octet is left
unfoldable pub rows : ℕ → ℕ → Taken Message → List ℕ
rows i at (message n m t) = row i at n m ++ rows (i + 1) (at + n) t
rows i at (waits r) = cond (is_empty r) (end_line at 0) (end_line (at + length r) more_needed)
rows i at (stops k p r) = end_line (at + p) k

-- the first line: what the columns are
abbrev pub title : List ℕ
title = ascii "message start length fields content trailers\n"

-- all that is printed: the title, then a row for each message and the last line, read under http; for input above the size a last line with 8
unfoldable pub listing_of : List ℕ → List ℕ
listing_of s = title ++ cond (leb (length s) listing_most) (rows 1 0 (take_off (read_request (plain 0)) s)) (end_line listing_most too_large)
