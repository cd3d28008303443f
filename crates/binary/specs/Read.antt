-- The reader of Binary HTTP in 01's order of judgement (01, "Binary HTTP as we take it", "Sizes", "Numbers a call answers with"; RFC 9292, section 3), over what
-- an edition allows (02, item 7; draft-thomson-http-binary-message-00, section 3).
use Rattle.std.specs.Prelude.{ℕ, zero, suc, ◌+◌, Bool, true, false, not, cond, List, [], ◌∷◌, ◌++◌, ltb, leb, eqb, length, Option, None}
use Rattle.octets.specs.Ascii.{ascii}
use Rattle.octets.specs.Text.{same_text, is_empty}
use Rattle.octets.specs.Limits.{method_most, authority_most, path_most, lines_most, chunks_most, content_most, binary_most, informational_most}
use Rattle.octets.specs.Refusals.{bad_syntax, not_supported, bad_length, too_large, cut_off, bad_indicator, bad_section, bad_padding, bad_edition}
use Rattle.script.specs.Script.{Answer, accepted, refused}
use Rattle.script.specs.Do.{Piece, Judged, good, wrong}
use Rattle.messages.specs.Message.{whole_path, FieldRead, Section, InformationalRead, Start, request_start, response_start, Message, counted_message, non_empty}
use Rattle.messages.specs.Control.{method_verdict, is_options, path_verdict, authority_verdict, status_verdict, is_informational, ends_at_head, is_lower_name, is_trimmed_value, Verdict}
use Rattle.messages.specs.Names.{are_trailers, kept_trailers}
use Rattle.messages.specs.Rules.{authority_in, binary_framing_of, nothing_stated, bodyless_rule, may_state, agrees, stated_in}
use Rattle.messages.specs.declared.Framing.{Framing}
use Rattle.messages.specs.declared.Framing.TheVariants.{Unstated}
use Rattle.messages.specs.declared.Told.{Told}
use Rattle.messages.specs.Told.{is_edition}
use Rattle.messages.specs.Meaning.{content_of}
use Rattle.binary.specs.declared.Form.{Form}
use Rattle.binary.specs.Reader.{Got, got, no, cursor, Reader, ◌>>=◌, give, refuse, here, longs, ended, tell, rule, integer, string}

-- ---- what an edition allows

-- by RFC 9292 a value may be empty and zero octets may follow the message
abbrev pub rfc9292 : Bool → Form
rfc9292 known = record { known = known; empty = true; padded = true; headless = false }

-- in the draft they may not, but a message may also end before its final header section
abbrev pub draft : Bool → Form
draft known = record { known = known; empty = false; padded = false; headless = true }

-- by the number of the edition told, of messages of known or of indeterminate length
unfoldable pub form_of : ℕ → Bool → Form
form_of edition known = cond (eqb edition 0) (rfc9292 known) (draft known)

-- ---- parts: a length and what it counts

-- a part without a size of its own
unfoldable pub part : Reader Piece
part = do
  p ← here
  n ← integer cut_off p
  string n cut_off p

-- a part of at most so many octets: the length is judged before what it counts
unfoldable pub part_within : ℕ → Reader Piece
part_within most = do
  p ← here
  n ← integer cut_off p
  cond (leb n most) (string n cut_off p) (refuse too_large p)

-- a part whose octets have a rule, by its verdict
unfoldable pub ruled_part : ℕ → (List ℕ → Verdict) → Reader Piece
ruled_part most verdict = do
  p ← here
  w ← part_within most
  tell (rule (verdict w.text) p w)

-- ---- control data

-- the number of a scheme; another is refused
unfoldable pub scheme_of : List ℕ → ℕ → Judged ℕ
scheme_of w p = cond (same_text w (ascii "http")) (good 0) (cond (same_text w (ascii "https")) (good 1) (wrong not_supported p))

-- the scheme's part: another scheme is 4 at the part
unfoldable pub scheme_part : Reader ℕ
scheme_part = do
  p ← here
  w ← part
  tell (scheme_of w.text p)

-- the control data of a request; the authority may still be empty
pub record RequestControl : Type 0 where
  pub method : Piece
  pub scheme : ℕ
  pub authority : Piece
  pub path : Piece

-- behind a method and a scheme: authority and path
unfoldable pub after_scheme : Piece → ℕ → Reader RequestControl
after_scheme m s = do
  a ← ruled_part authority_most authority_verdict
  p ← ruled_part path_most (path_verdict (is_options m.text))
  give (record { method = m; scheme = s; authority = a; path = p })

-- method, scheme, authority, path: each judged before the next is read
unfoldable pub request_control : Reader RequestControl
request_control = do
  m ← ruled_part method_most method_verdict
  s ← scheme_part
  after_scheme m s

-- ---- field lines

-- a value as the edition allows it: empty or not
unfoldable pub is_line_value : Form → List ℕ → Bool
is_line_value form v = cond (is_trimmed_value v) (cond form.empty true (not (is_empty v))) false

-- a line's octets are judged when both halves are in, at the line's first octet
unfoldable pub judged_line : Form → ℕ → Piece → Piece → Judged FieldRead
judged_line form p n v =
    cond (is_lower_name n.text) (cond (is_line_value form v.text) (good (record { name = n; value = v; place = p })) (wrong bad_syntax p)) (wrong bad_syntax p)

-- the number of a line that is cut off: in a known-length section it crosses the section
abbrev pub cut_number : Form → ℕ
cut_number form = cond form.known bad_section cut_off

-- the place of a value that is cut off: in an indeterminate section the value is a part of its own, at q; in a known-length one the line's place p stays
abbrev pub cut_place : Form → ℕ → ℕ → ℕ
cut_place form p q = cond form.known p q

-- behind the name length a of the line at the place p, in either kind of section: name, value length, value
unfoldable pub after_name_length : Form → ℕ → ℕ → Reader FieldRead
after_name_length form p a = do
  n ← string a (cut_number form) p
  q ← here
  b ← integer (cut_number form) (cut_place form p q)
  v ← string b (cut_number form) (cut_place form p q)
  tell (judged_line form p n v)

-- a line of a known-length section: it has a name
unfoldable pub known_line : Form → Reader FieldRead
known_line form = do
  p ← here
  a ← integer bad_section p
  cond (eqb a 0) (refuse bad_section p) (after_name_length form p a)

-- the lines that fill the body of a known-length section exactly; a 65th is refused before it is read. The first number is above how many may come
unfoldable pub known_lines : Form → ℕ → List FieldRead → Reader (List FieldRead)
known_lines form zero fs = refuse too_large 0
known_lines form (suc f) fs = do
  e ← ended
  p ← here
  cond e
      (give fs)
      (cond (leb lines_most (length fs))
      (refuse too_large p)
      (do
        h ← known_line form
        known_lines form f (fs ++ h ∷ [])))

-- the body is read by itself, with the count so far; behind it the reading goes on with its count
abbrev pub on_body : Got (List FieldRead) → Reader (List FieldRead)
on_body (got fs e r) c s = got fs (cursor c.at e.long) s
on_body (no n p) c s = no n p

-- the lines that fill the body b of a known-length section
unfoldable pub body_lines : Form → Piece → Reader (List FieldRead)
body_lines form b c = on_body (known_lines form (suc lines_most) [] (cursor b.place c.long) b.text) c

-- a known-length section: its length, and the lines that fill its body
unfoldable pub known_section : Form → Reader (List FieldRead)
known_section form = do
  b ← part
  body_lines form b

-- the lines up to a name length of zero; a 65th is refused when its name length is in. The first number is above how many may come
unfoldable pub open_lines : Form → ℕ → List FieldRead → Reader (List FieldRead)
open_lines form zero fs = refuse too_large 0
open_lines form (suc f) fs = do
  p ← here
  a ← integer cut_off p
  cond (eqb a 0)
      (give fs)
      (cond (leb lines_most (length fs))
      (refuse too_large p)
      (do
        h ← after_name_length form p a
        open_lines form f (fs ++ h ∷ [])))

-- an indeterminate section
abbrev pub open_section : Form → Reader (List FieldRead)
open_section form = open_lines form (suc lines_most) []

-- a section and the place behind it
unfoldable pub section : Form → Reader Section
section form = do
  fs ← cond form.known (known_section form) (open_section form)
  e ← here
  give (record { lines = fs; end = e })

-- no lines, at the place p
abbrev pub no_section : ℕ → Section
no_section p = record { lines = []; end = p }

-- a request's header section, or that of a final head: where the edition allows that the message ends before it, it has no lines then
unfoldable pub header_section : Form → Reader Section
header_section form = do
  e ← ended
  p ← here
  cond (cond e form.headless false) (give (no_section p)) (section form)

-- ---- content

-- content of known length: a part, whose size is judged first
unfoldable pub known_content : Reader (List Piece)
known_content = do
  c ← part_within content_most
  give (non_empty c)

-- chunks up to a length of zero, behind chunks of so many octets in all: a 257th or a total above the size is refused at its length. The first number is
-- above how many may come
unfoldable pub open_chunks : ℕ → List Piece → ℕ → Reader (List Piece)
open_chunks zero cs total = refuse too_large 0
open_chunks (suc f) cs total = do
  p ← here
  n ← integer cut_off p
  cond (eqb n 0)
      (give cs)
      (cond (leb chunks_most (length cs))
      (refuse too_large p)
      (cond (ltb content_most (total + n))
      (refuse too_large p)
      (do
        c ← string n cut_off p
        open_chunks f (cs ++ c ∷ []) (total + n))))

-- content of indeterminate length
abbrev pub open_content : Reader (List Piece)
open_content = open_chunks (suc chunks_most) [] 0

-- the message may end before its content: then there is none
unfoldable pub content : Bool → Reader (List Piece)
content known = do
  e ← ended
  cond e (give []) (cond known known_content open_content)

-- whether n octets of content agree with the length stated, and with a message that may have content or not
unfoldable pub content_agrees : Framing → Bool → ℕ → Bool
content_agrees f body n = cond (agrees f n) (cond body true (eqb n 0)) false

-- judged at the place behind the content
unfoldable pub content_rule : Bool → Framing → ℕ → List Piece → Judged (List Piece)
content_rule body f end cs = cond (content_agrees f body (length (content_of cs))) (good cs) (wrong bad_length end)

-- ---- trailers and padding

-- whether n kept trailers, which have good names or not, agree with a message that may have content or not: one that ends at its head keeps none
unfoldable pub trailers_agree : Bool → Bool → ℕ → Bool
trailers_agree names body n = cond names (cond body true (eqb n 0)) false

-- judged at the place behind the section
unfoldable pub trailer_rule : Bool → Section → Judged (List FieldRead)
trailer_rule body h =
    cond (trailers_agree (are_trailers h.lines) body (length (kept_trailers h.lines))) (good h.lines) (wrong bad_length h.end)

-- the message may end before its trailers: then there are none
unfoldable pub trailers : Form → Bool → Reader (List FieldRead)
trailers form body = do
  e ← ended
  cond e
      (give [])
      (do
        h ← section form
        tell (trailer_rule body h))

-- zero octets may follow, to the end, where the edition allows padding; any other octet is refused at its place
unfoldable pub padding : Form → Reader ℕ
padding form c [] = got c.at c []
padding form c (b ∷ s) = cond (cond form.padded (eqb b 0) false) (padding form (cursor (c.at + 1) c.long) s) (no bad_padding c.at)

-- ---- whole messages

-- behind the content: trailers and padding. What follows the trailers is padding, in which no integer is counted
unfoldable pub after_content : Form → Bool → Option ℕ → Start → List FieldRead → List Piece → Reader Message
after_content form body stated start lines c = do
  ts ← trailers form body
  n ← longs
  z ← padding form
  give (counted_message n stated start lines c ts)

-- behind a header section that was judged: content, trailers, padding. `body` says whether the message may have content, `stated` the length it states if not
unfoldable pub after_headers : Form → Bool → Option ℕ → Start → Section → Framing → Reader Message
after_headers form body stated start h f = do
  cs ← content form.known
  e ← here
  c ← tell (content_rule body f e cs)
  after_content form body stated start h.lines c

-- behind the header section of a request: host, then the length, are judged
unfoldable pub after_head : Form → RequestControl → Section → Reader Message
after_head form q h = do
  a ← tell (authority_in h.end q.authority h.lines)
  f ← tell (may_state h.end (binary_framing_of h.lines))
  after_headers form true None (request_start q.method q.scheme a (whole_path q.path)) h f

-- behind the control data of a request
unfoldable pub after_control : Form → RequestControl → Reader Message
after_control form q = do
  h ← header_section form
  after_head form q h

-- a request
unfoldable pub request_message : Form → Reader Message
request_message form = do
  q ← request_control
  after_control form q

-- behind the section of a final head of status n: the length that it states is judged
unfoldable pub after_final : Told → Form → List InformationalRead → ℕ → Section → Reader Message
after_final t form is n h =
    cond (ends_at_head t n)
    (do
      b ← tell (bodyless_rule t n h.end (binary_framing_of h.lines))
      after_headers form false (stated_in t n (binary_framing_of h.lines)) (response_start is n) h Unstated)
    (do
      f ← tell (may_state h.end (binary_framing_of h.lines))
      after_headers form true None (response_start is n) h f)

-- behind a final status n
unfoldable pub after_final_status : Told → Form → List InformationalRead → ℕ → Reader Message
after_final_status t form is n = do
  h ← header_section form
  after_final t form is n h

-- an informational head of status n with the lines of the section h
abbrev pub informational_read : ℕ → Section → InformationalRead
informational_read n h = record { status = n; lines = h.lines }

-- behind the section of an informational head of status n: it states no length, and `others` reads on behind the heads with it
unfoldable pub after_informational : (List InformationalRead → Reader Message) → List InformationalRead → ℕ → Section → Reader Message
after_informational others is n h = do
  u ← tell (nothing_stated h.end (binary_framing_of h.lines))
  others (is ++ informational_read n h ∷ [])

-- behind an informational status n: its section stands there in either edition
unfoldable pub after_informational_status : Form → (List InformationalRead → Reader Message) → List InformationalRead → ℕ → Reader Message
after_informational_status form others is n = do
  h ← section form
  after_informational others is n h

-- one head after another, behind the informational heads `is`: a fifth is refused at its status. The number is above how many may come
unfoldable pub heads : Told → Form → ℕ → List InformationalRead → Reader Message
heads t form zero is = refuse too_large 0
heads t form (suc f) is = do
  p ← here
  v ← integer cut_off p
  n ← tell (rule (status_verdict v) p v)
  cond (is_informational n)
      (cond (leb informational_most (length is)) (refuse too_large p) (after_informational_status form (heads t form f) is n))
      (after_final_status t form is n)

-- a response
abbrev pub response_message : Told → Form → Reader Message
response_message t form = heads t form (suc informational_most) []

-- behind the framing indicator: 0 request, 1 response, of known length; 2 and 3 the same of indeterminate length
unfoldable pub after_indicator : Told → ℕ → Reader Message
after_indicator t f =
    cond (eqb f 0)
    (request_message (form_of t.edition true))
    (cond (eqb f 1)
    (response_message t (form_of t.edition true))
    (cond (eqb f 2)
    (request_message (form_of t.edition false))
    (cond (eqb f 3) (response_message t (form_of t.edition false)) (refuse bad_indicator 0))))

-- the framing indicator, and what it names
unfoldable pub message : Told → Reader Message
message t = do
  f ← integer cut_off 0
  after_indicator t f

-- the whole input is the message, padding too
abbrev pub message_answer : Got Message → Answer Message
message_answer (got m c r) = accepted c.at m
message_answer (no k p) = refused k p

-- the input in an edition; above the size it is 8 at 0, first
unfoldable pub read_sized : Told → List ℕ → Answer Message
read_sized t s = cond (leb (length s) binary_most) (message_answer (message t (cursor 0 0) s)) (refused too_large 0)

-- a whole Binary message in the edition told; another number is 17 at 0, before all else
unfoldable pub read_binary : Told → List ℕ → Answer Message
read_binary t s = cond (is_edition t.edition) (read_sized t s) (refused bad_edition 0)
