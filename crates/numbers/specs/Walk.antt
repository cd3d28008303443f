-- The Binary integer reader is one walk over the octets, and this is its value (02, item 4; RFC 9000, section 16): one statement, from which all four widths
-- follow, since the width is only the number of octets walked.
use Rattle.std.specs.Prelude.{ℕ, ◌+◌, ◌*◌, ◌%◌, ◌^◌, ◌≡◌, cond, List, [], ◌∷◌, ltb, length, take, Option, Some, None}
use Rattle.numbers.specs.Integer.{read_more, read_int, extra_of, long_of, integer_of}
use Rattle.numbers.specs.declared.Integer.{Integer}

-- the number that octets stand for, most significant first
unfoldable pub big_endian : List ℕ → ℕ
big_endian [] = 0
big_endian (b ∷ s) = b * 256 ^ length s + big_endian s

-- n octets of s, onto the value v
unfoldable pub value_walked : ℕ → ℕ → List ℕ → ℕ
value_walked n v s = v * 256 ^ n + big_endian (take n s)

-- of an integer of w octets: all of them count by their places; where fewer are there, the integer is cut off
unfoldable pub walked : ℕ → ℕ → ℕ → ℕ → List ℕ → Option Integer
walked w n v at s = cond (ltb (length s) n) None (Some (integer_of (value_walked n v s) (at + n) (long_of w (value_walked n v s))))

-- the claims: the walk, of any number of octets; and an integer, whatever its first octet says of its width
pub record OneWalk : Type 0 where
  pub walk : (w n v at : ℕ) (s : List ℕ) → read_more w n v at s ≡ walked w n v at s
  pub every-width : (b at : ℕ) (s : List ℕ) → read_int at (b ∷ s) ≡ walked (extra_of b + 1) (extra_of b) (b % 64) (at + 1) s
