-- The readers of HTTP/1.1, as scripts in 01's order of judgement (01, "HTTP/1.1 as we take it", "Sizes", "Numbers a call answers with").
use Rattle.std.specs.Prelude.{ℕ, zero, suc, ◌+◌, ◌-◌, cond, List, [], ◌∷◌, ◌++◌, ltb, leb, eqb, length, take, drop, Option}
use Rattle.octets.specs.Text.{same_text, is_empty}
use Rattle.octets.specs.Limits.{head_most, trailer_most, chunk_line_most, lines_most, chunks_most, content_most, informational_most}
use Rattle.octets.specs.Refusals.{bad_syntax, not_supported, bad_length, too_large}
use Rattle.script.specs.Script.{Answer, refused, Cutter, a_line, some_octets, Script, done, stop, run}
use Rattle.script.specs.Do.{◌>>=◌, Piece, piece, word, tell, Judged, good, wrong}
use Rattle.messages.specs.declared.Told.{Told}
use Rattle.messages.specs.Message.{FieldRead, InformationalRead, request_start, response_start, Message, plain_message, stating_message, non_empty}
use Rattle.messages.specs.Control.{is_informational}
use Rattle.messages.specs.Names.{are_trailers}
use Rattle.messages.specs.Rules.{target_authority, framing_of, request_body, nothing_stated, response_body, stated_in}
use Rattle.messages.specs.declared.Body.{Body}
use Rattle.messages.specs.declared.Body.TheVariants.{Sized, InChunks, UntilClosed}
use Rattle.messages.specs.Told.{ending_of}
use Rattle.messages.specs.Valid.{is_scheme}
use Rattle.http1_lines.specs.Lines.{RequestRead, request_of, status_of, field_of, chunk_of}

-- a line within what is left of an allowance: 2 for its ending, 8 where it is too long
abbrev pub line_within : ℕ → Cutter
line_within left = a_line left bad_syntax too_large

-- what a line takes off an allowance
abbrev pub less : ℕ → Piece → ℕ
less left l = left - (length l.text + 2)

-- ---- sections: field lines up to the empty line

-- the lines, the place behind the empty line, and what is left of the allowance
pub record Lines : Type 0 where
  pub lines : List FieldRead
  pub end : ℕ
  pub left : ℕ

-- one line after another: the empty line ends the section, a 65th line is refused before its syntax is looked at. The first number is above
-- how many lines may come, so its first clause is never come to
unfoldable pub field_lines : ℕ → ℕ → List FieldRead → Script Lines
field_lines zero left fs = stop too_large 0
field_lines (suc f) left fs = do
  l ← word (line_within left)
  cond (is_empty l.text)
      (done (record { lines = fs; end = l.place + 2; left = left - 2 }))
      (cond (leb lines_most (length fs))
      (stop too_large l.place)
      (do
        h ← tell (field_of l)
        field_lines f (less left l) (fs ++ h ∷ [])))

-- the field lines of a section, within an allowance
unfoldable pub section : ℕ → Script Lines
section left = field_lines (suc lines_most) left []

-- ---- content

-- the pieces of the content and the lines of the trailer section
pub record Content : Type 0 where
  pub chunks : List Piece
  pub trailers : List FieldRead

-- the trailer section, which has an allowance of its own; its names are judged behind it
unfoldable pub trailer_section : List Piece → Script Content
trailer_section cs = do
  h ← section trailer_most
  cond (are_trailers h.lines) (done (record { chunks = cs; trailers = h.lines })) (stop bad_length h.end)

-- the data of a chunk of n octets, with the CR LF behind it
unfoldable pub chunk_data : ℕ → Piece → Judged Piece
chunk_data n d =
    cond (same_text (drop n d.text) (13 ∷ 10 ∷ [])) (good (piece d.place (take n d.text))) (wrong bad_syntax (d.place + n))

-- behind a chunk line of size n, behind chunks cs of so many octets in all: its data, then what comes next
abbrev pub after_chunk_line : (List Piece → ℕ → Script Content) → List Piece → ℕ → ℕ → Script Content
after_chunk_line next cs total n = do
  d ← word (some_octets (n + 2))
  c ← tell (chunk_data n d)
  next (cs ++ c ∷ []) (total + n)

-- one chunk after another, behind chunks cs of so many octets in all: size zero ends them, a 257th or a total above the size is refused at its line.
-- The first number is above how many may come
unfoldable pub chunks_from : ℕ → List Piece → ℕ → Script Content
chunks_from zero cs total = stop too_large 0
chunks_from (suc f) cs total = do
  l ← word (line_within chunk_line_most)
  n ← tell (chunk_of l)
  cond (eqb n 0)
      (trailer_section cs)
      (cond (leb chunks_most (length cs))
      (stop too_large l.place)
      (cond (ltb content_most (total + n))
      (stop too_large l.place)
      (after_chunk_line (chunks_from f) cs total n)))

-- so many octets, one piece or none; or chunks; or, up to an end that has not come, more octets, refused at the first of them once they are too many
unfoldable pub content : Body → Script Content
content (Sized n) = do
  c ← word (some_octets n)
  done (record { chunks = non_empty c; trailers = [] })
content InChunks = chunks_from (suc chunks_most) [] 0
content UntilClosed = do
  c ← word (some_octets (content_most + 1))
  stop too_large c.place

-- ---- requests

-- behind the head: host, lengths, content
unfoldable pub after_head : Told → RequestRead → Lines → Script Message
after_head t q h = do
  a ← tell (target_authority h.end q.authority h.lines)
  b ← tell (request_body h.end (framing_of h.lines))
  c ← content b
  done (plain_message (request_start q.method t.scheme a q.path) h.lines c.chunks c.trailers)

-- behind the request line, within what is left of the allowance: field lines, and what stands behind the head
abbrev pub after_request_line : Told → RequestRead → ℕ → Script Message
after_request_line t q left = do
  h ← section left
  after_head t q h

-- request line, and what stands behind it
unfoldable pub request : Told → Script Message
request t = do
  l ← word (line_within head_most)
  q ← tell (request_of t.scheme l)
  after_request_line t q (less head_most l)

-- a call told another scheme number is 4 at 0, first
unfoldable pub read_request : Told → List ℕ → Answer Message
read_request t s = cond (is_scheme t.scheme) (run (request t) 0 s) (refused not_supported 0)

-- ---- responses

-- an informational head of status n with the lines h
abbrev pub informational_read : ℕ → Lines → InformationalRead
informational_read n h = record { status = n; lines = h.lines }

-- behind an informational head of status n, behind the heads `is`: it states no length, and the next head comes
abbrev pub after_informational : (List InformationalRead → ℕ → Script Message) → List InformationalRead → ℕ → Lines → Script Message
after_informational next is n h = do
  u ← tell (nothing_stated h.end (framing_of h.lines))
  next (is ++ informational_read n h ∷ []) h.left

-- behind the line of an informational status n: field lines, and what stands behind the head
abbrev pub after_informational_line : (List InformationalRead → ℕ → Script Message) → List InformationalRead → ℕ → ℕ → Script Message
after_informational_line next is n left = do
  h ← section left
  after_informational next is n h

-- a call of the reader of responses: what it is told, and where the stream ends
pub record ResponseCall : Type 0 where
  pub told : Told
  pub ending : Option ℕ

-- a call that is told t, on a stream of n octets
abbrev pub response_call : Told → ℕ → ResponseCall
response_call t n = record { told = t; ending = ending_of t n }

-- behind the final head: lengths, content
unfoldable pub after_final : ResponseCall → List InformationalRead → ℕ → Lines → Script Message
after_final q is n h = do
  b ← tell (response_body q.told q.ending n h.end (framing_of h.lines))
  c ← content b
  done (stating_message (stated_in q.told n (framing_of h.lines)) (response_start is n) h.lines c.chunks c.trailers)

-- what is read behind the final head, by the informational heads before it, its status and its lines
abbrev pub BehindHeads : Type 0
BehindHeads = List InformationalRead → ℕ → Lines → Script Message

-- behind the line of a final status n: field lines, and what stands behind the head
abbrev pub after_final_line : BehindHeads → List InformationalRead → ℕ → ℕ → Script Message
after_final_line after is n left = do
  h ← section left
  after is n h

-- one head within what is left of the allowance, behind informational heads: a fifth is refused at its line. `next` reads on behind an informational head,
-- `after` behind a final one
abbrev pub next_head : (List InformationalRead → ℕ → Script Message) → BehindHeads → List InformationalRead → ℕ → Script Message
next_head next after is left = do
  l ← word (line_within left)
  n ← tell (status_of l)
  cond (is_informational n)
      (cond (leb informational_most (length is)) (stop too_large l.place) (after_informational_line next is n (less left l)))
      (after_final_line after is n (less left l))

-- one head after another: each is judged before the next line is read. The first number is above how many heads may come
unfoldable pub heads_then : BehindHeads → ℕ → List InformationalRead → ℕ → Script Message
heads_then after zero is left = stop too_large 0
heads_then after (suc f) is left = next_head (heads_then after f) after is left

-- all heads of a call, and what stands behind them
abbrev pub heads : ResponseCall → ℕ → List InformationalRead → ℕ → Script Message
heads q f is left = heads_then (after_final q) f is left

-- the first response of a stream as it is told; the script itself never looks at how long the stream is
unfoldable pub read_response : Told → List ℕ → Answer Message
read_response t s = run (heads (response_call t (length s)) (suc informational_most) [] head_most) 0 s
