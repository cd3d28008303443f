-- A meaning as HTTP/1.1 (01, "How we write"), and whether it may be written ("Sizes"; 14, then 8 at 0: "Numbers a call answers with";
-- 02, items 5 and 9).
use Rattle.std.specs.Prelude.{ℕ, Bool, true, false, cond, ◌&&◌, List, [], ◌∷◌, ◌++◌, leb, eqb, length, Option, Some, None}
use Rattle.octets.specs.Ascii.{ascii}
use Rattle.octets.specs.Text.{same_text, is_empty}
use Rattle.octets.specs.Limits.{head_most, trailer_most, lines_most}
use Rattle.octets.specs.Refusals.{too_large, other_scheme}
use Rattle.numbers.specs.Digits.{digits}
use Rattle.messages.specs.declared.Told.{Told}
use Rattle.messages.specs.Told.{is_yes}
use Rattle.messages.specs.Control.{ends_at_head}
use Rattle.messages.specs.Meaning.{Field, Informational, Control, request, response, Meaning, length_field}
use Rattle.messages.specs.Valid.{no_fields}
use Rattle.output.specs.Reply.{Reply, writes, refuses}
use Rattle.http1_writer.specs.declared.LengthLine.{LengthLine}
use Rattle.http1_writer.specs.declared.LengthLine.TheVariants.{Nothing, Length, Chunked}

-- the end of a line
abbrev pub crlf : List ℕ
crlf = 13 ∷ 10 ∷ []

-- ---- lines

-- a field line: name, colon, space, value
unfoldable pub field_text : Field → List ℕ
field_text f = f.name ++ ascii ": " ++ f.value ++ crlf

-- the lines of a section, and the empty line
unfoldable pub section_text : List Field → List ℕ
section_text [] = crlf
section_text (f ∷ fs) = field_text f ++ section_text fs

-- method, path and version, with one space between
unfoldable pub request_line : List ℕ → List ℕ → List ℕ
request_line m p = m ++ 32 ∷ [] ++ p ++ ascii " HTTP/1.1" ++ crlf

-- the reason is empty, its space stays
unfoldable pub status_line : ℕ → List ℕ
status_line s = ascii "HTTP/1.1 " ++ digits 10 s ++ 32 ∷ [] ++ crlf

-- ---- the lines that a head gains

-- the host line, from the authority
unfoldable pub host_field : List ℕ → Field
host_field a = record { name = ascii "host"; value = a }

-- the length line of content in chunks
unfoldable pub coding_field : Field
coding_field = record { name = ascii "transfer-encoding"; value = ascii "chunked" }

-- methods that expect no content, in this case of letters (02, item 9; RFC 9110, section 8.6)
unfoldable pub is_get_or_head : List ℕ → Bool
is_get_or_head m = cond (same_text m (ascii "GET")) true (same_text m (ascii "HEAD"))

-- whether a request with empty content goes without a length line: by the former rule each does, else those that expect no content
unfoldable pub is_silent : Told → List ℕ → Bool
is_silent t m = cond (is_yes t.former) true (is_get_or_head m)

-- whether no length line says how long the content of a message without kept trailers is: requests with empty content that go without, responses that end at
-- their head
abbrev pub unmeasured : Told → Control → List ℕ → Bool
unmeasured t (request m s a p) content = cond (is_empty content) (is_silent t m) false
unmeasured t (response hs s) content = ends_at_head t s

-- the length line of a stated length: none where it is missing
abbrev pub stated_line : Option ℕ → LengthLine
stated_line None = Nothing
stated_line (Some n) = Length n

-- which length line: chunked where trailers are kept; else the stated length's where none is of the content, and else that of the content, n octets
abbrev pub line_for : Bool → Bool → Option ℕ → ℕ → LengthLine
line_for plain without stated n = cond plain (cond without (stated_line stated) (Length n)) Chunked

-- the length line of a meaning
unfoldable pub length_line : Told → Meaning → LengthLine
length_line t m = line_for (no_fields m.trailers) (unmeasured t m.control m.content) m.stated (length m.content)

-- what is written of it: one field or none
abbrev pub length_fields : LengthLine → List Field
length_fields Nothing = []
length_fields (Length n) = length_field n ∷ []
length_fields Chunked = coding_field ∷ []

-- a request gains a host line, a response none
abbrev pub host_line : Control → List Field
host_line (request m s a p) = host_field a ∷ []
host_line (response hs s) = []

-- the lines of the final head: host, length, fields
unfoldable pub head_lines : Told → Meaning → List Field
head_lines t m = host_line m.control ++ length_fields (length_line t m) ++ m.headers

-- ---- heads and body

-- informational heads, each with its empty line
unfoldable pub informational_text : List Informational → List ℕ
informational_text [] = []
informational_text (h ∷ hs) = (status_line h.status ++ section_text h.fields) ++ informational_text hs

-- what stands before the final head's field lines
abbrev pub start_text : Control → List ℕ
start_text (request m s a p) = request_line m p
start_text (response hs s) = informational_text hs ++ status_line s

-- all heads of a message, which the size of heads counts together
unfoldable pub head_text : Told → Meaning → List ℕ
head_text t m = start_text m.control ++ section_text (head_lines t m)

-- one chunk with the content, none if it is empty; lower-case hexadecimal without leading zeros
unfoldable pub chunk_text : List ℕ → List ℕ
chunk_text content = cond (is_empty content) [] (digits 16 (length content) ++ crlf ++ content ++ crlf)

-- the chunk, the last chunk line, the trailer section
unfoldable pub chunked_text : List ℕ → List Field → List ℕ
chunked_text content trailers = chunk_text content ++ ascii "0" ++ crlf ++ section_text trailers

-- content in chunks where trailers are kept, else the content alone
unfoldable pub body_text : List ℕ → List Field → List ℕ
body_text content trailers = cond (no_fields trailers) content (chunked_text content trailers)

-- a whole message: heads, then the body
unfoldable pub http1_of : Told → Meaning → List ℕ
http1_of t m = head_text t m ++ body_text m.content m.trailers

-- whether what is written is within the sizes of heads, lines and trailers. An informational head gains no line and a trailer section none
unfoldable pub http1_fits : Told → Meaning → Bool
http1_fits t m =
    leb (length (head_text t m)) head_most && leb (length (head_lines t m)) lines_most
    && cond (no_fields m.trailers) true (leb (length (section_text m.trailers)) trailer_most)

-- a request's scheme is the connection's; a response has none
abbrev pub on_connection : Told → Control → Bool
on_connection t (request m s a p) = eqb s t.scheme
on_connection t (response hs s) = true

-- a meaning as HTTP/1.1 on the connection: 14, then 8 at 0 where a written size is passed
unfoldable pub to_http1 : Told → Meaning → Reply
to_http1 t m = cond (on_connection t m.control) (cond (http1_fits t m) (writes (http1_of t m)) (refuses too_large 0)) (refuses other_scheme 0)
