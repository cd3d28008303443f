-- The table of examples for 02: rows for each item that has landed, in the items' order, one statement. What a row says is in `Examples`.
use Rattle.std.specs.Prelude.{ℕ, true, false, List, [], ◌∷◌, ◌++◌, take, replicate, Some}
use Prim.Native.String.{String}
use Rattle.octets.specs.Ascii.{ascii}
use Rattle.messages.specs.Told.{plain, answering, closing, keeping, in_edition}
use Rattle.messages.specs.Answers.{part_at}
use Rattle.messages.specs.declared.PathPrefix.TheVariants as prefix
use Rattle.messages.specs.declared.Told.{Told}
use Rattle.examples.specs.Examples.{http, Example, integer, http1, http1_reply, binary_reply, states, reply_becomes, goes_as, binary, becomes, anew_as, turned_away, counted, longs, http1_as, aims, closes_after, binary_closes, figure13, hex, AllHold}

-- item 4: the sample integers of RFC 9000, appendix A.1, one of each width, the last in a form that is not the shortest
unfoldable pub widths : List Example
widths =
    integer (hex "c2197c5eff14e88c") 151288809941952652
    ∷ integer (hex "9d7f3e7d") 494878333
    ∷ integer (hex "7bbd") 15293
    ∷ integer (hex "25") 37
    ∷ integer (hex "4025") 37
    ∷ []

-- told that the message answers a HEAD
abbrev pub to_head : Told
to_head = answering 1 http

-- a HEAD
unfoldable pub head_text : List ℕ
head_text = ascii "HEAD /s HTTP/1.1\r\nHost: a\r\n\r\n"

-- a response that states a length of twelve digits
unfoldable pub stated_text : List ℕ
stated_text = ascii "HTTP/1.1 200 \r\ncontent-length: 123456789012\r\n\r\n"

-- the same as Binary: the length stands first in the header
unfoldable pub stated_binary : List ℕ
stated_binary = hex "01 40c8 1c 0e" ++ ascii "content-length" ++ hex "0c" ++ ascii "123456789012" ++ hex "00 00"

-- one of 16 digits
unfoldable pub wide_text : List ℕ
wide_text = ascii "HTTP/1.1 304 \r\ncontent-length: 1000000000000000\r\n\r\n"

-- item 5
unfoldable pub replies : List Example
replies =
    -- a HEAD is accepted
    http1 head_text 0 29
    -- its reply ends behind its head, whatever stands behind; told no, the content is too large at its line
    ∷ http1_reply to_head (stated_text ++ ascii "x") 0 47
    ∷ states to_head stated_text (Some 123456789012)
    ∷ http1_reply http stated_text 8 15
    -- it becomes Binary and comes back
    ∷ reply_becomes to_head stated_text stated_binary
    ∷ binary_reply to_head stated_binary 0 34
    ∷ goes_as to_head stated_binary stated_text
    -- read without the remark the content is not as long
    ∷ binary_reply http stated_binary 7 33
    -- 304 states more than 15 digits
    ∷ http1_reply http wide_text 8 15
    -- a HEAD's reply may announce chunked, 304 may not
    ∷ http1_reply to_head (ascii "HTTP/1.1 304 \r\ntransfer-encoding: chunked\r\n\r\n") 0 45
    ∷ http1_reply http (ascii "HTTP/1.1 304 \r\ntransfer-encoding: chunked\r\n\r\n") 7 45
    -- 204 states nothing, to a HEAD too
    ∷ http1_reply to_head (ascii "HTTP/1.1 204 \r\ncontent-length: 0\r\n\r\n") 7 36
    ∷ []

-- told that the connection has closed
abbrev pub closed : Told
closed = closing 1 http

-- a response without a length: a head of 17 octets, and content
unfoldable pub old_text : List ℕ
old_text = ascii "HTTP/1.1 200 \r\n\r\nabc"

-- the same as Binary
unfoldable pub old_binary : List ℕ
old_binary = hex "01 40c8 00 03616263 00"

-- the same with a length
unfoldable pub measured_text : List ℕ
measured_text = ascii "HTTP/1.1 200 \r\ncontent-length: 3\r\n\r\nabc"

-- item 10
unfoldable pub closings : List Example
closings =
    -- open, more octets are needed; closed, it is as long as the input
    http1_reply http old_text 1 20
    ∷ http1_reply closed old_text 0 20
    -- it becomes Binary and comes back with a length
    ∷ reply_becomes closed old_text old_binary
    ∷ goes_as http old_binary measured_text
    -- closed right behind the head it is empty; in a head, behind an informational head or on no octets more are needed
    ∷ http1_reply closed (take 17 old_text) 0 17
    ∷ http1_reply closed (take 16 old_text) 1 16
    ∷ http1_reply closed (ascii "HTTP/1.1 100 \r\n\r\n") 1 17
    ∷ http1_reply closed [] 1 0
    -- with a length everything is as on an open connection
    ∷ http1_reply closed (measured_text ++ ascii "x") 0 39
    ∷ http1_reply closed (take 38 measured_text) 1 38
    -- 204, 304 and a HEAD's reply end behind their head, and what stands there is not theirs
    ∷ http1_reply closed (ascii "HTTP/1.1 204 \r\n\r\nabc") 0 17
    ∷ http1_reply closed (ascii "HTTP/1.1 304 \r\n\r\nabc") 0 17
    ∷ http1_reply (closing 1 to_head) old_text 0 17
    -- another coding than chunked stays 7
    ∷ http1_reply closed (ascii "HTTP/1.1 200 \r\ntransfer-encoding: gzip\r\n\r\nabc") 7 42
    ∷ []

-- a request without content, of a method with its length
abbrev pub empty_of : List ℕ → List ℕ
empty_of method = hex "00" ++ method ++ hex "0468747470 0161 022f73 00 00 00"

-- what stands behind the method in HTTP/1.1, without a length line and with it
unfoldable pub silent_text : List ℕ
silent_text = ascii " /s HTTP/1.1\r\nhost: a\r\n\r\n"

unfoldable pub saying_text : List ℕ
saying_text = ascii " /s HTTP/1.1\r\nhost: a\r\ncontent-length: 0\r\n\r\n"

-- item 9
unfoldable pub empties : List Example
empties =
    goes_as http (empty_of (hex "04" ++ ascii "POST")) (ascii "POST" ++ saying_text)
    -- GET and HEAD go without, in this case of letters
    ∷ goes_as http (empty_of (hex "03" ++ ascii "GET")) (ascii "GET" ++ silent_text)
    ∷ goes_as http (empty_of (hex "04" ++ ascii "HEAD")) (ascii "HEAD" ++ silent_text)
    ∷ goes_as http (empty_of (hex "03" ++ ascii "get")) (ascii "get" ++ saying_text)
    -- by the former rule each goes without
    ∷ goes_as (keeping 1 http) (empty_of (hex "04" ++ ascii "POST")) (ascii "POST" ++ silent_text)
    ∷ []

-- told that the message is of the draft, and a number that is no edition's
abbrev pub draft : Told
draft = in_edition 1 http

abbrev pub no_edition : Told
no_edition = in_edition 2 http

-- Figures 8, 9 and 11 of document 002
unfoldable pub figure8 : List ℕ
figure8 =
    hex "00034745 54056874 74707300 0a2f6865 6c6c6f2e 74787440 6c0a7573 65722d61"
    ++ hex "67656e74 34637572 6c2f372e 31362e33 206c6962 6375726c 2f372e31 362e3320"
    ++ hex "4f70656e 53534c2f 302e392e 376c207a 6c69622f 312e322e 3304686f 73740f77"
    ++ hex "77772e65 78616d70 6c652e63 6f6d0f61 63636570 742d6c61 6e677561 67650665"
    ++ hex "6e2c206d 690000"

unfoldable pub figure9 : List ℕ
figure9 =
    hex "02034745 54056874 74707300 0a2f6865 6c6c6f2e 7478740a 75736572 2d616765"
    ++ hex "6e743463 75726c2f 372e3136 2e33206c 69626375 726c2f37 2e31362e 33204f70"
    ++ hex "656e5353 4c2f302e 392e376c 207a6c69 622f312e 322e3304 686f7374 0f777777"
    ++ hex "2e657861 6d706c65 2e636f6d 0f616363 6570742d 6c616e67 75616765 06656e2c"
    ++ hex "206d6900 0000"

unfoldable pub figure11 : List ℕ
figure11 =
    hex "03406607 72756e6e 696e670a 22736c65 65702031 35220040 67046c69 6e6b233c"
    ++ hex "2f737479 6c652e63 73733e3b 2072656c 3d707265 6c6f6164 3b206173 3d737479"
    ++ hex "6c65046c 696e6b24 3c2f7363 72697074 2e6a733e 3b207265 6c3d7072 656c6f61"
    ++ hex "643b2061 733d7363 72697074 0040c804 64617465 1d4d6f6e 2c203237 204a756c"
    ++ hex "20323030 39203132 3a32383a 35332047 4d540673 65727665 72064170 61636865"
    ++ hex "0d6c6173 742d6d6f 64696669 65641d57 65642c20 3232204a 756c2032 30303920"
    ++ hex "31393a31 353a3536 20474d54 04657461 67142233 34616133 38372d64 2d313536"
    ++ hex "38656230 30220d61 63636570 742d7261 6e676573 05627974 65730e63 6f6e7465"
    ++ hex "6e742d6c 656e6774 68023531 04766172 790f4163 63657074 2d456e63 6f64696e"
    ++ hex "670c636f 6e74656e 742d7479 70650a74 6578742f 706c6169 6e003348 656c6c6f"
    ++ hex "20576f72 6c642120 4d792063 6f6e7465 6e742069 6e636c75 64657320 61207472"
    ++ hex "61696c69 6e672043 524c462e 0d0a0000"

-- a POST to the authority that is named, up to its control data's end
abbrev pub post_to : List ℕ → List ℕ
post_to authority = hex "00 04504f5354 0468747470" ++ authority ++ hex "022f73"

-- the same with a field x without a value, and with no more than a host line without one
unfoldable pub empty_value : List ℕ
empty_value = post_to (hex "0161") ++ hex "03 0178 00 00 00"

unfoldable pub empty_host : List ℕ
empty_host = post_to (hex "00") ++ hex "06 04686f7374 00 00 00"

-- item 7
unfoldable pub editions : List Example
editions =
    -- the draft's own figures
    binary_reply draft figure8 0 135
    ∷ binary_reply draft figure9 0 134
    ∷ binary_reply draft figure11 0 368
    ∷ binary_reply draft figure13 0 48
    -- a value can't be empty: 2 at its line, an empty host too
    ∷ binary_reply http empty_value 0 22
    ∷ binary_reply draft empty_value 2 17
    ∷ binary_reply http empty_host 6 22
    ∷ binary_reply draft empty_host 2 16
    -- an octet behind the trailers
    ∷ binary_reply http (figure13 ++ hex "00") 0 49
    ∷ binary_reply draft (figure13 ++ hex "00") 12 48
    -- a message ends before its final header section: its rules are judged
    ∷ binary_reply http (post_to (hex "0161")) 9 16
    ∷ binary_reply draft (post_to (hex "0161")) 0 16
    ∷ binary_reply draft (post_to (hex "00")) 6 15
    ∷ binary_reply draft (hex "01 40c8") 0 3
    -- an informational head has its section, and a final status behind it
    ∷ binary_reply draft (hex "01 4064") 9 3
    ∷ binary_reply draft (hex "01 4064 00") 9 4
    -- RFC 9292 is written
    ∷ anew_as draft (post_to (hex "0161")) (post_to (hex "0161") ++ hex "00 00 00")
    -- another number is 17 at 0, before a scheme's 4 too
    ∷ binary_reply no_edition figure13 17 0
    ∷ binary_reply (in_edition 4294967295 http) [] 17 0
    ∷ turned_away (in_edition 2 (plain 2)) figure13 17 0
    ∷ turned_away (in_edition 1 (plain 2)) figure13 4 0
    ∷ []

-- P5 of 01 with each integer in two octets, and behind it content and trailers of indeterminate length, each integer in eight
unfoldable pub long_post : List ℕ
long_post = hex "4000 4004504f5354 400468747470 400161 40022f73 4000 4003616263 4000"

unfoldable pub long_chunks : List ℕ
long_chunks = hex "0140c8" ++ hex "00" ++ hex "c000000000000003616263" ++ hex "c000000000000000"

-- item 8
unfoldable pub forms : List Example
forms =
    -- 63 fits one octet, 64 does not
    counted (hex "25") 37 0
    ∷ counted (hex "4025") 37 1
    ∷ counted (hex "403f") 63 1
    ∷ counted (hex "4040") 64 0
    ∷ counted (hex "80004000") 16384 0
    ∷ counted (hex "c000000000000000") 0 1
    -- framing, lengths of control data, section, content and trailers; what follows is padding and counts nothing
    ∷ longs long_post 8
    ∷ longs (long_post ++ hex "0000") 8
    ∷ longs long_chunks 2
    ∷ longs figure13 0
    -- terminators of sections and content, and the lengths in a line that is dropped
    ∷ longs (hex "03 40c8 4000 4000 4000") 3
    ∷ longs (hex "03 40c8 4002 7465 4001 78 00 00 00") 2
    ∷ []

-- a request line with this method and target
abbrev pub line_to : String → List ℕ
line_to x = ascii x ++ ascii " HTTP/1.1\r\n"

-- a request with this method and target, and a Host that is b
abbrev pub request_to : String → List ℕ
request_to x = line_to x ++ ascii "Host:b\r\n\r\n"

-- a line whose target is of https, an authority of one octet, and a query of so many octets behind its "?"
abbrev pub long_query : ℕ → List ℕ
long_query n = ascii "GET https://a?" ++ replicate n 97 ++ ascii " HTTP/1.1\r\n"

-- a line whose target has an authority of so many octets
abbrev pub long_authority : ℕ → List ℕ
long_authority n = ascii "GET https://" ++ replicate n 97 ++ ascii " HTTP/1.1\r\n"

-- GET and OPTIONS as Binary, up to the authority's length
unfoldable pub binary_get : List ℕ
binary_get = hex "00 03474554 0468747470"

unfoldable pub binary_options : List ℕ
binary_options = hex "00 07" ++ ascii "OPTIONS" ++ hex "0468747470"

-- item 2
unfoldable pub targets : List Example
targets =
    -- 4: neither "/", "*" nor http or https with "://"; "*" of another method, in another case of letters, or with octets behind
    http1 (line_to "GET http:/a") 4 0
    ∷ http1 (line_to "GET httpx://a") 4 0
    ∷ http1 (line_to "GET *") 4 0
    ∷ http1 (line_to "options *") 4 0
    ∷ http1 (line_to "OPTIONS *#") 4 0
    -- 2: then the octets of the whole target, its authority's too
    ∷ http1 (line_to "GET http://#") 2 0
    -- 6: then the authority, by its octets and its size
    ∷ http1 (line_to "GET https:///") 6 0
    ∷ http1 (line_to "GET http://u@a/") 6 0
    ∷ http1 (long_authority 256) 6 0
    -- 8: then the path's size, with what is put before it
    ∷ http1 (long_query 4095) 8 0
    -- 14: the scheme last, of the line alone
    ∷ http1 (long_query 4094) 14 0
    ∷ http1 (long_authority 255) 14 0
    ∷ http1_as (plain 1) (line_to "GET http://a") 14 0
    ∷ http1_as (plain 1) (request_to "GET hTTpS://a") 0 34
    -- Host stands once, whatever its value; else 6 behind the head
    ∷ http1 (line_to "GET http://a/" ++ ascii "Host:\r\n\r\n") 0 33
    ∷ http1 (line_to "GET http://a/" ++ ascii "\r\n") 6 26
    ∷ http1 (line_to "GET http://a/" ++ ascii "Host:a\r\nHost:a\r\n\r\n") 6 42
    -- the authority is the target's; the path's range shows the target's own octets, and stands at its end where there are none
    ∷ aims (request_to "GET http://a/") (part_at 11 1) prefix.Nothing (part_at 12 1)
    ∷ aims (request_to "GET http://a") (part_at 11 1) prefix.Slash (part_at 12 0)
    ∷ aims (request_to "GET HTTP://A?x") (part_at 11 1) prefix.Slash (part_at 12 2)
    ∷ aims (request_to "OPTIONS http://a") (part_at 15 1) prefix.Asterisk (part_at 16 0)
    ∷ aims (request_to "OPTIONS *") (part_at 25 1) prefix.Nothing (part_at 8 1)
    -- what it means: no path is "/", a query goes behind it; for OPTIONS neither is "*"
    ∷ becomes (request_to "GET http://a") (binary_get ++ hex "0161 012f 00 00 00")
    ∷ becomes (request_to "GET HTTP://A?x") (binary_get ++ hex "0141 032f3f78 00 00 00")
    ∷ becomes (request_to "OPTIONS http://a?") (binary_options ++ hex "0161 022f3f 00 00 00")
    ∷ becomes (request_to "OPTIONS http://a") (binary_options ++ hex "0161 012a 00 00 00")
    ∷ becomes (request_to "OPTIONS *") (binary_options ++ hex "0162 012a 00 00 00")
    -- written: origin-form, or "*"
    ∷ goes_as http (binary_get ++ hex "0141 032f3f78 00 00 00") (ascii "GET /?x HTTP/1.1\r\nhost: A\r\n\r\n")
    ∷ goes_as http (binary_options ++ hex "0161 012a 00 00 00") (ascii "OPTIONS * HTTP/1.1\r\nhost: a\r\ncontent-length: 0\r\n\r\n")
    -- Binary: "*" for OPTIONS alone; absolute-form stays 4
    ∷ binary (binary_options ++ hex "0161 012a 00 00 00") 0 21
    ∷ binary (binary_options ++ hex "0161 022a78") 4 16
    ∷ binary (binary_get ++ hex "0161 012a") 4 12
    ∷ binary (binary_get ++ hex "0161 08" ++ ascii "http://a") 4 12
    ∷ []

-- a GET with these header lines behind its host
abbrev pub get_with : String → List ℕ
get_with lines = ascii "GET / HTTP/1.1\r\nHost:a\r\n" ++ ascii lines ++ ascii "\r\n"

-- the same as Binary, up to its header section
unfoldable pub get_binary : List ℕ
get_binary = binary_get ++ hex "0161 012f"

-- what it becomes where no field is kept, and where "x: y" is
unfoldable pub none_kept : List ℕ
none_kept = get_binary ++ hex "00 00 00"

unfoldable pub one_kept : List ℕ
one_kept = get_binary ++ hex "04 01780179 00 00"

-- item 3
unfoldable pub named : List Example
named =
    -- a field is dropped that a Connection line names, before it or behind it; another is kept
    becomes (get_with "Connection:x\r\nx:y\r\n") none_kept
    ∷ becomes (get_with "x:y\r\nConnection:x\r\n") none_kept
    ∷ becomes (get_with "Connection:xx\r\nx:y\r\n") one_kept
    -- by any of several lines, and by any member: letters in any case on both sides, spaces and tabs at the ends, empty members beside it
    ∷ becomes (get_with "Connection:close\r\nX:y\r\nConnection:x\r\n") none_kept
    ∷ becomes (get_with "x:y\r\ncOnnection:,\t, X \t,\r\n") none_kept
    -- every comma splits, within quotes too; a member that is no token names nothing
    ∷ becomes (get_with "x:y\r\nConnection:\"a,x,b\"\r\n") none_kept
    ∷ becomes (get_with "x:y\r\nConnection:\"x\", x y\r\n") one_kept
    -- Proxy-Connection names nothing, and Connection may name itself
    ∷ becomes (get_with "x:y\r\nProxy-Connection:x\r\n") one_kept
    ∷ becomes (get_with "x:y\r\nConnection:connection\r\n") one_kept
    -- host and lengths are judged on the whole section first
    ∷ becomes (get_with "Connection:host, content-length\r\nContent-Length:1\r\n" ++ ascii "b") (get_binary ++ hex "00 0162 00")
    ∷ http1 (get_with "Connection:content-length\r\nContent-Length:1\r\nContent-Length:1\r\n") 7 89
    -- each informational head by its own lines; host of a response is dropped where it is named
    ∷ reply_becomes
    http
    (ascii "HTTP/1.1 103 \r\nConnection:x\r\nx:y\r\n\r\nHTTP/1.1 204 \r\nx:y\r\nhost:b\r\nConnection:host\r\n\r\n")
    (hex "01 4067 00 40cc 04 01780179 00 00")
    -- trailers: a head's line names none of them, and one of theirs names nothing
    ∷ becomes
    (get_with "Connection:x\r\nTransfer-Encoding:chunked\r\n" ++ ascii "0\r\nx:y\r\nConnection:x\r\n\r\n")
    (get_binary ++ hex "00 00 04 01780179")
    -- Binary alike
    ∷ anew_as http (get_binary ++ hex "12 01780179 0a" ++ ascii "connection" ++ hex "0278 2c 00 00") none_kept
    -- whether the sender means to close
    ∷ closes_after (get_with "Connection:x ,CLOSE\r\n") true
    ∷ closes_after (get_with "Connection:x, closed\r\nclose:x\r\n") false
    ∷ binary_closes (get_binary ++ hex "11 0a" ++ ascii "connection" ++ hex "05" ++ ascii "close" ++ hex "00 00") true
    ∷ []

-- the statement: every row holds
pub record Statement : Type 0 where
  pub item2 : AllHold targets
  pub item3 : AllHold named
  pub item4 : AllHold widths
  pub item5 : AllHold replies
  pub item7 : AllHold editions
  pub item8 : AllHold forms
  pub item9 : AllHold empties
  pub item10 : AllHold closings
