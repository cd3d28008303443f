-- How long the parts of a message are that is written as HTTP/1.1, by the numbers of its record and its ranges alone: what the code of the writer adds up.
-- They are the lengths and tests of Write (`head_text`, `body_text`, `http1_fits`, `on_connection`; 01, "How we write", "Sizes").
use Rattle.std.specs.Prelude.{ℕ, zero, suc, ◌+◌, ◌*◌, Bool, true, false, cond, ◌&&◌, List, [], ◌∷◌, ◌++◌, eqb, leb, length, get_or}
use Rattle.octets.specs.Limits.{head_most, trailer_most, lines_most}
use Rattle.numbers.specs.Digits.{count_of}
use Rattle.messages.specs.Control.{ends_at_head}
use Rattle.messages.specs.declared.Part.{Part}
use Rattle.messages.specs.declared.Told.{Told}
use Rattle.messages.specs.declared.Record.{Record}
use Rattle.messages.specs.Meaning.{Field}
use Rattle.ranges.specs.Entries.{fields_named, fields_before, heads_in, part_in, content_in, path_in, path_size}
use Rattle.http1_writer.specs.declared.LengthLine.{LengthLine}
use Rattle.http1_writer.specs.Write.{field_text, section_text, request_line, status_line, informational_text, host_field, line_for, length_fields, body_text, is_silent}

-- the field line of the entry k
abbrev pub line_size : List ℕ → ℕ → ℕ
line_size fs k = get_or fs (k * 4 + 1) 0 + 2 + get_or fs (k * 4 + 3) 0 + 2

-- the lines of n entries from the entry k on, and the empty line
abbrev pub section_size : List ℕ → ℕ → ℕ → ℕ
section_size fs k zero = 2
section_size fs k (suc n) = line_size fs k + section_size fs (k + 1) n

-- a status line
abbrev pub status_size : ℕ → ℕ
status_size status = 9 + count_of 10 status + 1 + 2

-- n informational heads from the head i on
abbrev pub heads_size : List ℕ → List ℕ → ℕ → ℕ → ℕ
heads_size hs ns i zero = 0
heads_size hs ns i (suc n) = status_size (get_or ns (i * 2) 0) + section_size hs (fields_before ns i) (get_or ns (i * 2 + 1) 0) + heads_size hs ns (i + 1) n

-- a request line, with a path of so many octets
abbrev pub request_size : Part → ℕ → ℕ
request_size method path = method.len + 1 + path + 9 + 2

-- a host line
abbrev pub host_size : Part → ℕ
host_size authority = 6 + authority.len + 2

-- content of n octets as one chunk
unfoldable pub chunk_size : ℕ → ℕ
chunk_size n = cond (eqb n 0) 0 (count_of 16 n + 2 + n + 2)

-- the body: content of n octets and `count` trailer fields
unfoldable pub body_size : ℕ → List ℕ → ℕ → ℕ
body_size n ts count = cond (eqb count 0) n (chunk_size n + 1 + 2 + section_size ts 0 count)

-- ---- the length line

-- whether no length line says how long the content of a message without trailers is
unfoldable pub unmeasured_in : Told → List ℕ → Record → Bool
unmeasured_in t s r = cond r.response (ends_at_head t r.status) (cond (eqb r.content 0) (is_silent t (part_in s r.method)) false)

-- the length line of a message
unfoldable pub length_line_in : Told → List ℕ → Record → LengthLine
length_line_in t s r = line_for (eqb r.trailers 0) (unmeasured_in t s r) r.stated r.content

-- lines one behind the other
unfoldable pub lines_text : List Field → List ℕ
lines_text [] = []
lines_text (f ∷ fs) = field_text f ++ lines_text fs

-- a length line as it is written
unfoldable pub length_text : LengthLine → List ℕ
length_text l = lines_text (length_fields l)

-- how long it is
unfoldable pub length_size : LengthLine → ℕ
length_size l = length (length_text l)

-- how many lines it is
unfoldable pub length_count : LengthLine → ℕ
length_count l = length (length_fields l)

-- ---- the head

-- what stands before the length line: informational heads and status line, or request line and host line
unfoldable pub lead_text_in : List ℕ → Record → List ℕ → List ℕ → List ℕ
lead_text_in s r hs ns =
    cond r.response
    (informational_text (heads_in s hs ns 0 r.informational) ++ status_line r.status)
    (request_line (part_in s r.method) (path_in s r.prefix r.path) ++ field_text (host_field (part_in s r.authority)))

-- how long it is
unfoldable pub lead_size : Record → List ℕ → List ℕ → ℕ
lead_size r hs ns =
    cond r.response
    (heads_size hs ns 0 r.informational + status_size r.status)
    (request_size r.method (path_size r.prefix r.path) + host_size r.authority)

-- all heads of a message, with this length line
unfoldable pub head_text_in : List ℕ → Record → LengthLine → List ℕ → List ℕ → List ℕ
head_text_in s r l hs ns = lead_text_in s r hs ns ++ length_text l ++ section_text (fields_named s hs (fields_before ns r.informational) r.headers)

-- how long they are
unfoldable pub head_size : Record → LengthLine → List ℕ → List ℕ → ℕ
head_size r l hs ns = lead_size r hs ns + length_size l + section_size hs (fields_before ns r.informational) r.headers

-- a whole message, with this length line
unfoldable pub message_text_in : List ℕ → Record → LengthLine → List ℕ → List ℕ → List ℕ → List ℕ → List ℕ
message_text_in s r l hs ns cs ts = head_text_in s r l hs ns ++ body_text (content_in s cs r.chunks) (fields_named s ts 0 r.trailers)

-- how many field lines the final head has: host, length line and fields
unfoldable pub head_count : Record → LengthLine → ℕ
head_count r l = cond r.response 0 1 + length_count l + r.headers

-- ---- the tests

-- whether `count` trailer fields are within the size of trailers
unfoldable pub trailers_fit : List ℕ → ℕ → Bool
trailers_fit ts count = cond (eqb count 0) true (leb (section_size ts 0 count) trailer_most)

-- whether heads of so many octets, their lines and the trailers are within the sizes
unfoldable pub fits_in : ℕ → Record → LengthLine → List ℕ → Bool
fits_in head r l ts = leb head head_most && leb (head_count r l) lines_most && trailers_fit ts r.trailers

-- whether the scheme of a request is the connection's
unfoldable pub connected_in : Told → Record → Bool
connected_in t r = cond r.response true (eqb r.scheme t.scheme)

-- ---- bounds of the sizes, so that no sum wraps

-- a status line, with a status of any size
abbrev pub status_bound : ℕ
status_bound = 32

-- 64 lines, each with two lengths of 32 bits, and the empty line
abbrev pub section_bound : ℕ
section_bound = 549755814018

-- four informational heads
abbrev pub heads_bound : ℕ
heads_bound = 2199023256200

-- a request line and a host line: three lengths of 32 bits, and what is put before the path
abbrev pub request_bound : ℕ
request_bound = 12884901906

-- what stands before the length line
abbrev pub lead_bound : ℕ
lead_bound = 2199023256232

-- the length line
abbrev pub length_bound : ℕ
length_bound = 38

-- all heads
abbrev pub head_bound : ℕ
head_bound = 4398046511104

-- the content as one chunk
abbrev pub chunk_bound : ℕ
chunk_bound = 32792

-- the body
abbrev pub body_bound : ℕ
body_bound = 549755846813
