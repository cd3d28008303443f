-- The examples P1 to P13 of 01 ("Examples"), one table under one statement.
use Rattle.std.specs.Prelude.{ℕ, zero, suc, ◌+◌, ◌*◌, ◌≡◌, Bool, true, false, cond, List, [], ◌∷◌, ◌++◌, eqb, ltb, length, take, Option, Some, None}
use Prim.Native.Char.{Char, code}
use Prim.Native.String.{String, [] as none, ◌∷◌ as ◌then◌}
use Rattle.octets.specs.Ascii.{ascii}
use Rattle.numbers.specs.Digits.{digit_of}
use Rattle.numbers.specs.Integer.{read_int, integer_of}
use Rattle.numbers.specs.declared.Integer.{Integer}
use Rattle.script.specs.Script.{Answer}
use Rattle.messages.specs.Told.{plain}
use Rattle.messages.specs.declared.Told.{Told}
use Rattle.messages.specs.Message.{Message}
use Rattle.messages.specs.Answers.{Outcome, reading_of, number_of, place_of}
use Rattle.messages.specs.declared.Part.{Part}
use Rattle.messages.specs.declared.PathPrefix.{PathPrefix}
use Rattle.messages.specs.declared.Record.{Record}
use Rattle.std.specs.Prelude.{Ok, Err}
use Rattle.messages.specs.declared.Stop.{Stop}
use Rattle.octets.specs.Refusals.{refused_at}
use Rattle.http1_lines.specs.Read.{read_request, read_response}
use Rattle.binary.specs.Read.{read_binary}
use Rattle.turn.specs.Turn.{request_to_binary, response_to_binary, binary_to_binary, binary_to_http1}
use Rattle.output.specs.Reply.{writes, refuses}

-- ---- octets by pairs of hexadecimal digits; spaces are passed over

-- an octet for each two digits
abbrev pub paired : List ℕ → List ℕ
paired [] = []
paired (a ∷ []) = []
paired (a ∷ b ∷ s) = (digit_of a * 16 + digit_of b) ∷ paired s

-- all but the spaces
abbrev pub solid : List ℕ → List ℕ
solid [] = []
solid (b ∷ s) = cond (eqb b 32) (solid s) (b ∷ solid s)

-- the octets that a text of digits shows
unfoldable pub hex : String → List ℕ
hex t = paired (solid (ascii t))

-- ---- what a row says

-- a row: an input, and what is to come of it
pub data Example : Type 0 where
  -- the octets are this integer, and no octet is left
  integer : List ℕ → ℕ → Example
  -- reading as an HTTP/1.1 request under http: number, then the length or the refusal's place
  http1 : List ℕ → ℕ → ℕ → Example
  -- reading as an HTTP/1.1 response, as told: the same
  http1_reply : Told → List ℕ → ℕ → ℕ → Example
  -- reading as Binary, as told
  binary_reply : Told → List ℕ → ℕ → ℕ → Example
  -- an accepted HTTP/1.1 response, read as told, has this stated length
  states : Told → List ℕ → Option ℕ → Example
  -- an HTTP/1.1 response, read as told, becomes these octets of Binary
  reply_becomes : Told → List ℕ → List ℕ → Example
  -- a Binary message, as told, becomes these octets of HTTP/1.1
  goes_as : Told → List ℕ → List ℕ → Example
  -- reading as Binary: number, then the length or the refusal's place
  binary : List ℕ → ℕ → ℕ → Example
  -- an accepted Binary message has so many octets of content and so many trailers
  binary_has : List ℕ → ℕ → ℕ → Example
  -- an HTTP/1.1 request under http becomes these octets of Binary
  becomes : List ℕ → List ℕ → Example
  -- a Binary message is written anew as these octets
  anew : List ℕ → List ℕ → Example
  -- so many octets
  long : List ℕ → ℕ → Example
  -- a Binary message, as told, is written anew as these octets
  anew_as : Told → List ℕ → List ℕ → Example
  -- a Binary message, as told, does not become HTTP/1.1: number and place
  turned_away : Told → List ℕ → ℕ → ℕ → Example
  -- the octets are this integer, counted so often as long
  counted : List ℕ → ℕ → ℕ → Example
  -- so many integers of an accepted Binary message are not in their shortest form
  longs : List ℕ → ℕ → Example
  -- reading as an HTTP/1.1 request, as told: number, then the length or the refusal's place
  http1_as : Told → List ℕ → ℕ → ℕ → Example
  -- an accepted HTTP/1.1 request under http has this authority and this path, and what is put before it
  aims : List ℕ → Part → PathPrefix → Part → Example
  -- an accepted HTTP/1.1 request under http says whether its sender means to close; so does a Binary message
  closes_after : List ℕ → Bool → Example
  binary_closes : List ℕ → Bool → Example

-- a call told http, that its message answers no HEAD, and that the connection is open
abbrev pub http : Told
http = plain 0

-- number and place of an answer on an input
abbrev pub Answers : List ℕ → Answer Message → ℕ → ℕ → Type 0
Answers s a k p = (number_of (reading_of a).outcome ≡ k) × (place_of (length s) (reading_of a).outcome ≡ p)

-- content and trailers of an accepted message
abbrev pub Counts : Outcome → ℕ → ℕ → Type 0
Counts (Ok r) c t = (r.content ≡ c) × (r.trailers ≡ t)
Counts (Err e) c t = ⊥

-- the stated length of an accepted message
abbrev pub States : Outcome → Option ℕ → Type 0
States (Ok r) x = r.stated ≡ x
States (Err e) x = ⊥

-- an integer, whether its form is the shortest left out
abbrev pub uncounted : Option Integer → Option Integer
uncounted (Some i) = Some (integer_of i.value i.next 0)
uncounted None = None

-- so many integers of an accepted message are not in their shortest form
abbrev pub LongIn : Outcome → ℕ → Type 0
LongIn (Ok r) n = r.long ≡ n
LongIn (Err e) n = ⊥

-- authority and path of an accepted message, and what is put before the path
abbrev pub Aims : Outcome → Part → PathPrefix → Part → Type 0
Aims (Ok r) a x p = (r.authority ≡ a) × (r.prefix ≡ x) × (r.path ≡ p)
Aims (Err e) a x p = ⊥

-- whether the sender of an accepted message means to close
abbrev pub Closes : Outcome → Bool → Type 0
Closes (Ok r) b = r.closes ≡ b
Closes (Err e) b = ⊥

-- what a row says of the definitions
abbrev pub Holds : Example → Type 0
Holds (integer s v) = uncounted (read_int 0 s) ≡ Some (integer_of v (length s) 0)
Holds (http1 s k p) = Answers s (read_request http s) k p
Holds (http1_reply t s k p) = Answers s (read_response t s) k p
Holds (binary_reply t s k p) = Answers s (read_binary t s) k p
Holds (states t s x) = States (reading_of (read_response t s)).outcome x
Holds (reply_becomes t s b) = response_to_binary t s ≡ writes b
Holds (goes_as t s b) = binary_to_http1 t s ≡ writes b
Holds (binary s k p) = Answers s (read_binary http s) k p
Holds (binary_has s c t) = Counts (reading_of (read_binary http s)).outcome c t
Holds (becomes s b) = request_to_binary http s ≡ writes b
Holds (anew s b) = binary_to_binary http s ≡ writes b
Holds (long s n) = length s ≡ n
Holds (anew_as t s b) = binary_to_binary t s ≡ writes b
Holds (turned_away t s k p) = binary_to_http1 t s ≡ refuses k p
Holds (counted s v l) = read_int 0 s ≡ Some (integer_of v (length s) l)
Holds (longs s n) = LongIn (reading_of (read_binary http s)).outcome n
Holds (http1_as t s k p) = Answers s (read_request t s) k p
Holds (aims s a x p) = Aims (reading_of (read_request http s)).outcome a x p
Holds (closes_after s b) = Closes (reading_of (read_request http s)).outcome b
Holds (binary_closes s b) = Closes (reading_of (read_binary http s)).outcome b

-- each row of a list holds
abbrev pub AllHold : List Example → Type 0
AllHold [] = Unit {0}
AllHold (e ∷ es) = Holds e × AllHold es

-- ---- the inputs

-- input A
unfoldable pub post_text : List ℕ
post_text = ascii "POST /s HTTP/1.1\r\nHost: a\r\nContent-Length: 3\r\n\r\nabc"

-- input A with Transfer-Encoding behind its length line
unfoldable pub two_lengths : List ℕ
two_lengths = ascii "POST /s HTTP/1.1\r\nHost: a\r\nContent-Length: 3\r\nTransfer-Encoding: chunked\r\n\r\nabc"

-- what P5 becomes
unfoldable pub post_binary : List ℕ
post_binary = hex "00 04504f5354 0468747470 0161 022f73 00 03616263 00"

-- Figure 13 of document 001
unfoldable pub figure13 : List ℕ
figure13 =
    hex "0140c800 1d546869 7320636f 6e74656e" ++ hex "7420636f 6e746169 6e732043 524c462e" ++ hex "0d0a0d07 74726169 6c657204 74657874"

-- ---- the table

-- P1 to P13, in 01's order
unfoldable pub table : List Example
table =
    -- P1 to P3
    integer (hex "25") 37
    ∷ integer (hex "4025") 37
    ∷ integer (hex "7bbd") 15293
    -- P4: A is accepted, length 51
    ∷ http1 post_text 0 51
    ∷ long post_text 51
    -- P5: A under http becomes 22 octets
    ∷ becomes post_text post_binary
    ∷ long post_binary 22
    -- P6: Figure 13 is accepted and written back identically: 48 octets, content 29, one trailer
    ∷ binary figure13 0 48
    ∷ binary_has figure13 29 1
    ∷ anew figure13 figure13
    -- P7: empty HTTP/1.1
    ∷ http1 [] 1 0
    -- P8: empty Binary
    ∷ binary [] 9 0
    -- P9
    ∷ binary (hex "04") 10 0
    -- P10: two statements of its length
    ∷ http1 two_lengths 7 76
    -- P11: P5's first 17 octets are accepted, no content
    ∷ binary (take 17 post_binary) 0 17
    ∷ binary_has (take 17 post_binary) 0 0
    -- P12: its first 16
    ∷ binary (take 16 post_binary) 9 16
    -- P13: Figure 13 and an octet that is not zero
    ∷ binary (figure13 ++ hex "01") 12 48
    ∷ []

-- the statement: every row holds
abbrev pub Statement : Type 0
Statement = AllHold table
