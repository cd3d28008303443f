-- Worked rows beside P1 to P13: what those leave open, each on the fewest octets (01, "Numbers a call answers with", "How we write", "Examples"). No row
-- rests on what an item of 02 changes. One statement, by computation; what a row of a list says is in `Examples`.
use Rattle.std.specs.Prelude.{ℕ, ◌≡◌, List, [], ◌∷◌, ◌++◌, replicate, Ok, Err, Some, None}
use Rattle.octets.specs.Ascii.{ascii}
use Rattle.script.specs.Script.{refused}
use Rattle.script.specs.Do.{piece}
use Rattle.messages.specs.Told.{plain}
use Rattle.messages.specs.Answers.{reading_of}
use Rattle.messages.specs.Answers.{Outcome}
use Rattle.messages.specs.declared.Stop.{Stop}
use Rattle.octets.specs.Refusals.{refused_at}
use Rattle.messages.specs.declared.Part.{Part}
use Rattle.messages.specs.declared.Ranges.{Ranges}
use Rattle.http1_lines.specs.Read.{read_request}
use Rattle.output.specs.Reply.{refuses, written_of, lent_after}
use Rattle.turn.specs.Turn.{request_to_binary, binary_to_http1}
use Rattle.turn.specs.Question.{request_question}
use Rattle.listing.specs.Listing.{listing_of}
use Rattle.examples.specs.Examples.{http, Example, http1, http1_reply, binary, goes_as, anew, hex, post_text, post_binary, figure13, AllHold}

-- ---- the numbers that P1 to P13 do not give

-- a response's status line
abbrev pub status_text : List ℕ → List ℕ
status_text status = ascii "HTTP/1.1 " ++ status ++ ascii " \r\n"

-- each number by its smallest input; 13, 14 and a scheme that is none stand below
unfoldable pub refusals : List Example
refusals =
    -- 1 of an input that is not empty
    http1 (ascii "G") 1 1
    -- 2: a line that ends without CR; a field line without a colon
    ∷ http1 (ascii "\n") 2 0
    ∷ http1 (ascii "G / HTTP/1.1\r\nx\r\n") 2 14
    -- 3
    ∷ http1 (ascii "G / HTTP/1.0\r\n") 3 0
    -- 4: CONNECT; a path that does not start with "/"; status 101
    ∷ http1 (ascii "CONNECT / HTTP/1.1\r\n") 4 0
    ∷ http1 (ascii "G s HTTP/1.1\r\n") 4 0
    ∷ http1_reply http (status_text (ascii "101")) 4 0
    -- 5: a status below 100, and above 599
    ∷ http1_reply http (status_text (ascii "099")) 5 0
    ∷ http1_reply http (status_text (ascii "600")) 5 0
    -- 6: no host line
    ∷ http1 (ascii "G / HTTP/1.1\r\n\r\n") 6 16
    -- 8: a part that is too long
    ∷ binary (hex "00 21") 8 1
    -- 11: a line that crosses its section, and one without a name
    ∷ binary (hex "01 40c8 01 05") 11 4
    ∷ binary (hex "01 40c8 01 00") 11 4
    ∷ []

-- ---- orders and places

-- so many field lines of four octets
abbrev pub short_lines : List (List ℕ) → List ℕ
short_lines [] = []
short_lines (l ∷ ls) = ascii "a:\r\n" ++ short_lines ls

-- the head of a request with chunked content: 51 octets
unfoldable pub chunked_head : List ℕ
chunked_head = ascii "P / HTTP/1.1\r\nHost:a\r\nTransfer-Encoding:chunked\r\n\r\n"

-- which of two rules is judged first, and where the refusal stands
unfoldable pub orders : List Example
orders =
    -- three spaces, then the version: 2; the version, then a method that is no token: 3; the method, then a path without "/": 2
    http1 (ascii "G  / HTTP/1.0\r\n") 2 0
    ∷ http1 (ascii "( / HTTP/1.0\r\n") 3 0
    ∷ http1 (ascii "( s HTTP/1.1\r\n") 2 0
    -- a method of 33 octets that is no token: 2
    ∷ http1 (replicate 33 40 ++ ascii " / HTTP/1.1\r\n") 2 0
    -- a path without "/" that has a "#": 4
    ∷ http1 (ascii "G s# HTTP/1.1\r\n") 4 0
    -- HTTP/1.0 with status 600: 3
    ∷ http1_reply http (ascii "HTTP/1.0 600 \r\n") 3 0
    -- no host, and two lengths: 6
    ∷ http1 (ascii "G / HTTP/1.1\r\ncontent-length: 0\r\ncontent-length: 0\r\n\r\n") 6 54
    -- a bad 65th line: 8 at the line
    ∷ http1 (ascii "G / HTTP/1.1\r\n" ++ short_lines (replicate 64 []) ++ ascii "b\r\n") 8 270
    -- an oversize length: 8 at its line, behind the head's 6
    ∷ http1 (ascii "G / HTTP/1.1\r\nContent-Length:32769\r\n\r\n") 6 38
    ∷ http1 (ascii "G / HTTP/1.1\r\nHost:a\r\nContent-Length:32769\r\n\r\n") 8 22
    -- a bad chunk end: 2 behind the data
    ∷ http1 (chunked_head ++ ascii "1\r\nxyz") 2 55
    -- `host` in trailers: 7 behind the section, in both forms
    ∷ http1 (chunked_head ++ ascii "0\r\nhost:a\r\n\r\n") 7 64
    ∷ binary (hex "01 40c8 00 00 07 04686f7374 0161") 7 13
    -- a Binary part that is too long and cut: 8 at the part; one that is cut alone: 9 at the part
    ∷ binary (hex "00 21") 8 1
    ∷ binary (hex "00 01") 9 1
    -- a section that is cut: 9 at its length; a line that crosses it: 11 at the line
    ∷ binary (hex "01 40c8 03 0161") 9 3
    ∷ binary (hex "01 40c8 02 0161") 11 4
    ∷ []

-- ---- each size at its limit, and one above

-- so many chunks of one octet: six octets each
abbrev pub small_chunks : List (List ℕ) → List ℕ
small_chunks [] = []
small_chunks (c ∷ cs) = ascii "1\r\nx\r\n" ++ small_chunks cs

-- a request with a host, up to the line that stands behind
unfoldable pub host_head : List ℕ
host_head = ascii "G / HTTP/1.1\r\nHost:a\r\n"

-- informational heads of 17 octets
abbrev pub informational_heads : List (List ℕ) → List ℕ
informational_heads [] = []
informational_heads (h ∷ hs) = ascii "HTTP/1.1 100 \r\n\r\n" ++ informational_heads hs

-- what is taken, or needs more, at the limit; what is refused one above
unfoldable pub limits : List Example
limits =
    -- method
    http1 (replicate 32 65 ++ ascii " / HTTP/1.1\r\nHost:a\r\n\r\n") 0 55
    ∷ http1 (replicate 33 65 ++ ascii " / HTTP/1.1\r\n") 8 0
    -- authority, in both forms
    ∷ http1 (ascii "G / HTTP/1.1\r\nHost:" ++ replicate 255 97 ++ ascii "\r\n\r\n") 0 278
    ∷ http1 (ascii "G / HTTP/1.1\r\nHost:" ++ replicate 256 97 ++ ascii "\r\n\r\n") 6 279
    ∷ binary (hex "00 0147 0468747470 40ff") 9 8
    ∷ binary (hex "00 0147 0468747470 4100") 8 8
    -- path
    ∷ binary (hex "00 0147 0468747470 0161 5000") 9 10
    ∷ binary (hex "00 0147 0468747470 0161 5001") 8 10
    ∷ http1 (ascii "G /" ++ replicate 4095 97 ++ ascii " HTTP/1.1\r\n") 1 4109
    ∷ http1 (ascii "G /" ++ replicate 4096 97 ++ ascii " HTTP/1.1\r\n") 8 0
    -- field lines
    ∷ http1 (host_head ++ short_lines (replicate 63 []) ++ ascii "\r\n") 0 276
    ∷ http1 (host_head ++ short_lines (replicate 64 []) ++ ascii "\r\n") 8 274
    -- informational heads
    ∷ http1_reply http (informational_heads (replicate 4 []) ++ ascii "HTTP/1.1 204 \r\n\r\n") 0 85
    ∷ http1_reply http (informational_heads (replicate 5 [])) 8 68
    -- content, by its length and in chunks; in Binary
    ∷ http1 (host_head ++ ascii "Content-Length:32768\r\n\r\n") 1 46
    ∷ http1 (host_head ++ ascii "Content-Length:32769\r\n\r\n") 8 22
    ∷ http1 (chunked_head ++ ascii "8000\r\n") 1 57
    ∷ http1 (chunked_head ++ ascii "8001\r\n") 8 51
    ∷ binary (hex "01 40c8 00 80008000") 9 4
    ∷ binary (hex "01 40c8 00 80008001") 8 4
    -- a chunk line
    ∷ http1 (chunked_head ++ ascii "1;" ++ replicate 252 97 ++ ascii "\r\n") 1 307
    ∷ http1 (chunked_head ++ ascii "1;" ++ replicate 253 97 ++ ascii "\r\n") 8 51
    -- chunks
    ∷ http1 (chunked_head ++ small_chunks (replicate 256 []) ++ ascii "0\r\n\r\n") 0 1592
    ∷ http1 (chunked_head ++ small_chunks (replicate 256 []) ++ ascii "1\r\n") 8 1587
    -- the trailer part, and all heads: what is left of an allowance is in and holds no LF
    ∷ http1 (chunked_head ++ ascii "0\r\n" ++ replicate 2047 97) 1 2101
    ∷ http1 (chunked_head ++ ascii "0\r\n" ++ replicate 2048 97) 8 54
    ∷ http1 (replicate 8191 97) 1 8191
    ∷ http1 (replicate 8192 97) 8 0
    -- a Binary input: a response with padding
    ∷ binary (hex "01 40cc" ++ replicate 65532 0) 0 65535
    ∷ binary (hex "01 40cc" ++ replicate 65533 0) 8 0
    ∷ []

-- ---- what is written

-- a GET without content, Binary
unfoldable pub empty_get : List ℕ
empty_get = hex "00 03474554 0468747470 0161 022f73 00 00 00"

-- exact octets
unfoldable pub writings : List Example
writings =
    -- framing 2, a request, and framing 3, a response, of indeterminate length; written with known lengths
    anew (hex "02 0147 0468747470 0161 012f 00 0178 00 00") (hex "00 0147 0468747470 0161 012f 00 0178 00")
    ∷ anew (hex "03 40c8 00 0178 00 00") (hex "01 40c8 00 0178 00")
    -- P5 back
    ∷ goes_as http post_binary (ascii "POST /s HTTP/1.1\r\nhost: a\r\ncontent-length: 3\r\n\r\nabc")
    -- Figure 13: in chunks, since it has a trailer
    ∷ goes_as http figure13
    (ascii "HTTP/1.1 200 \r\ntransfer-encoding: chunked\r\n\r\n1d\r\nThis content contains CRLF.\r\n\r\n0\r\ntrailer: text\r\n\r\n")
    -- an empty GET and a 204: no length line
    ∷ goes_as http empty_get (ascii "GET /s HTTP/1.1\r\nhost: a\r\n\r\n")
    ∷ goes_as http (hex "01 40cc 00 00 00") (ascii "HTTP/1.1 204 \r\n\r\n")
    ∷ []

-- ---- the listing, a field question, a message's ranges

-- 01's stream: A, and a GET of 28 octets
unfoldable pub stream_text : List ℕ
stream_text = post_text ++ ascii "GET /t HTTP/1.1\r\nHost: a\r\n\r\n"

-- the first line of every listing
unfoldable pub title_text : List ℕ
title_text = ascii "message start length fields content trailers\n"

-- what is printed for the stream
unfoldable pub listing_text : List ℕ
listing_text = title_text ++ ascii "1 0 51 0 3 0\n2 51 28 0 0 0\nend 79 0\n"

-- a field whose name is in upper case
unfoldable pub upper_text : List ℕ
upper_text = ascii "G / HTTP/1.1\r\nHost:a\r\nX: y\r\n\r\n"

-- two chunks, and a field in the header and in the trailers
unfoldable pub ranged_text : List ℕ
ranged_text = ascii "P /s HTTP/1.1\r\nHost: a\r\nX: y\r\nTransfer-Encoding: chunked\r\n\r\n2\r\nab\r\n1;e\r\nc\r\n0\r\nZ:w\r\n\r\n"

-- place and length of a part
abbrev pub part_of : Part → List ℕ
part_of p = p.start ∷ p.len ∷ []

-- the numbers of a record: scheme; method, authority and path; informational heads and status; header fields, chunks, octets of content, trailer fields; length
abbrev pub record_in : Outcome → List ℕ
record_in (Ok r) =
    (r.scheme ∷ []) ++ part_of r.method ++ part_of r.authority ++ part_of r.path
    ++ r.informational ∷ r.status ∷ r.headers ∷ r.chunks ∷ r.content ∷ r.trailers ∷ r.length ∷ []
record_in (Err e) = []

-- the ranges of that message: of each field its name and its value
unfoldable pub ranged_ranges : Ranges
ranged_ranges =
    record {
      informational = replicate 8 0;
      headers = 24 ∷ 1 ∷ 27 ∷ 1 ∷ replicate 1276 0;
      trailers = 78 ∷ 1 ∷ 80 ∷ 1 ∷ replicate 252 0;
      chunks = 63 ∷ 2 ∷ 72 ∷ 1 ∷ replicate 508 0;
    }

-- ---- the statement

-- every row holds
pub record Statement : Type 0 where
  pub refusals : AllHold refusals
  pub orders : AllHold orders
  pub limits : AllHold limits
  pub writings : AllHold writings
  -- 4: told a scheme that is none, before anything else
  pub no_scheme : read_request (plain 2) [] ≡ refused 4 0
  pub no_connection : binary_to_http1 (plain 2) [] ≡ refuses 4 0
  -- 13: 22 octets in a room of 21, of which none is altered; in one of 22; and in one of 23
  pub small : written_of (request_to_binary http post_text) 21 ≡ Err (refused_at 13 0)
  pub unaltered : lent_after (request_to_binary http post_text) (replicate 21 7) ≡ replicate 21 7
  pub enough : written_of (request_to_binary http post_text) 22 ≡ Ok 22
  pub behind : lent_after (request_to_binary http post_text) (replicate 23 7) ≡ post_binary ++ 7 ∷ []
  -- 14: a request of http on a connection of https
  pub other_scheme : binary_to_http1 (plain 1) post_binary ≡ refuses 14 0
  -- 01's listing
  pub listing : listing_of stream_text ≡ listing_text
  -- an input of 65,536 octets is read, one of 65,537 is not
  pub listed : listing_of (10 ∷ replicate 65535 0) ≡ title_text ++ ascii "end 0 2\n"
  pub unlisted : listing_of (10 ∷ replicate 65536 0) ≡ title_text ++ ascii "end 65536 8\n"
  -- a question by a name that stands in upper case on the wire; by another name; of a refused message
  pub asked : request_question http (ascii "x") upper_text ≡ Ok (Some (piece 25 (ascii "y")))
  pub missing : request_question http (ascii "z") upper_text ≡ Ok None
  pub asked_of_none : request_question http (ascii "x") (ascii "\n") ≡ Err (refused_at 2 0)
  -- record and ranges of one message
  pub numbers : record_in (reading_of (read_request http ranged_text)).outcome ≡ 0 ∷ 0 ∷ 1 ∷ 21 ∷ 1 ∷ 2 ∷ 2 ∷ 0 ∷ 0 ∷ 1 ∷ 2 ∷ 3 ∷ 1 ∷ 85 ∷ []
  pub ranges : (reading_of (read_request http ranged_text)).ranges ≡ ranged_ranges
