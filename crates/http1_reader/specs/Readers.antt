-- What the code of the request reader promises, in terms of `read_request` and `after_head` (http1_lines/specs/Read; 01, "HTTP/1.1 as we take it"; what is judged
-- after a head: "Numbers a call answers with").
use Rattle.std.specs.Prelude.{ℕ, ◌+◌, ◌-◌, ◌≤◌, ◌≡◌, Bool, true, false, List, length, take, drop, Option, Some, None, Result, Ok, Err}
use Rattle.octets.specs.Limits.{head_most}
use Rattle.octets.specs.Refusals.{bad_host, refused_at}
use Rattle.octets.specs.declared.Refused.{Refused}
use Rattle.script.specs.Script.{Answer, accepted, refused, more, run}
use Rattle.messages.specs.declared.Told.{Told}
use Rattle.script.specs.Do.{Piece, piece, Judged, good, wrong}
use Rattle.output.specs.Splice.{splice}
use Rattle.messages.specs.Message.{FieldRead, Message}
use Rattle.messages.specs.Names.{kept, kept_trailers}
use Rattle.messages.specs.Notes.{notes_of, target_noted, AllLie, body_answer}
use Rattle.messages.specs.Rules.{target_authority, framing_of, request_body}
use Rattle.messages.specs.declared.Notes.{Notes}
use Rattle.messages.specs.Answers.{fields_numbers, chunks_numbers, part_at, part_of, request_record, record_of}
use Rattle.messages.specs.declared.Counts.{Counts}
use Rattle.messages.specs.declared.Record.{Record}
use Rattle.messages.specs.declared.Span.{Span}
use Rattle.http1_lines.specs.Lines.{RequestRead, within}
use Rattle.http1_lines.specs.declared.RequestLine.{RequestLine}
use Rattle.http1_lines.specs.Read.{Lines, after_head, after_request_line}
use Rattle.sound.specs.Placed.{Each}
use Rattle.ranges.specs.Ranges.{Stores, Outcomed}
use Rattle.http1_parts.specs.Section.{Before}
use Rattle.http1_parts.specs.declared.ContentRead.{ContentRead}
use Rattle.http1_parts.specs.declared.Section.{Section}
use Rattle.messages.specs.declared.Body.{Body}
use Rattle.messages.specs.Answers.{Outcome}
use Rattle.messages.specs.declared.Stop.{Stop}
use Rattle.http1_reader.specs.declared.JudgedHead.{JudgedHead}

-- a request's head by its two rules: host first, then length
abbrev pub JudgedSays : Judged Piece → Judged Body → Result JudgedHead Refused → Type 0
JudgedSays (good a) (good b) r = r ≡ Ok (record { authority = record { start = a.place; len = length a.text }; body = b })
JudgedSays (good a) (wrong n p) r = r ≡ Err (refused_at n p)
JudgedSays (wrong n p) j r = r ≡ Err (refused_at n p)

-- the promise of a head that is judged
pub record HeadJudged (a : Judged Piece) (b : Judged Body) (r : Result JudgedHead Refused) : Type 0 where
  pub says : JudgedSays a b r

-- the answer by what the host lines and the lengths come to
abbrev pub head_answer : ℕ → Option Span → Result Body Refused → Result JudgedHead Refused
head_answer end None b = Err (refused_at bad_host end)
head_answer end (Some a) (Err e) = Err e
head_answer end (Some a) (Ok b) = Ok (record { authority = a; body = b })

-- a request's head that ends at a place, judged by notes, where the target's authority stands at `host`: so are all lines in s of which these are the
-- notes; and the answer, of whatever notes
pub record RequestJudged (s : List ℕ) (host : Span) (end : ℕ) (notes : Notes) (r : Result JudgedHead Refused) : Type 0 where
  pub by : (q : Piece) → q.place ≡ host.start → length q.text ≡ host.len → (lines : List FieldRead) → notes ≡ notes_of true lines → AllLie s lines
      → HeadJudged (target_authority end q lines) (request_body end (framing_of lines)) r
  pub answer : r ≡ head_answer end (target_noted s host.start host.len notes.hosts) (body_answer (request_body end notes.framing))

-- ---- requests

-- the counts of a message of length n: kept header fields, chunks and the octets in them, kept trailer fields; its stated length, and whether the sender means to
-- close
abbrev pub counts_with : Option ℕ → Bool → ℕ → ContentRead → Counts
counts_with stated closes fields c =
    record { headers = fields; chunks = c.chunks; content = c.total; trailers = c.trailers; length = c.end; stated = stated; long = 0; closes = closes }

-- the record of a request by its line, the section of its head, what is judged of this, and its content
abbrev pub request_found : Told → RequestLine → Section → JudgedHead → ContentRead → Record
request_found t l r h c =
    request_record t.scheme (part_at 0 l.method) (part_at h.authority.start h.authority.len) l.target.prefix
    (part_at (l.method + 1 + l.target.start) l.target.len) (counts_with None r.notes.closes r.kept c)

-- a space, the version and CR LF
abbrev pub version_len : ℕ
version_len = 11

-- the request line of s that ends, with its CR LF, at the place `next`
abbrev pub line_is : List ℕ → ℕ → Piece
line_is s next = piece 0 (take (next - 2) s)

-- what it says, as it was read: a method and a target
abbrev pub request_is : List ℕ → ℕ → RequestLine → RequestRead
request_is s next l =
    record {
      method = piece 0 (take l.method (take (next - 2) s));
      path = record { prefix = l.target.prefix; own = within (line_is s next) (l.method + 1 + l.target.start) l.target.len };
      authority = within (line_is s next) (l.method + 1 + l.target.host) l.target.hostlen;
    }

-- a head that was read: its request line q and its lines h, in the numbers that the code keeps of them
pub record HeadFacts (s : List ℕ) (q : RequestRead) (h : Lines) (l : RequestLine) (r : Section) : Type 0 where
  pub method : part_of q.method ≡ part_at 0 l.method
  pub prefix : q.path.prefix ≡ l.target.prefix
  pub path : part_of q.path.own ≡ part_at (l.method + 1 + l.target.start) l.target.len
  pub authority : q.authority.place ≡ l.method + 1 + l.target.host
  pub named : length q.authority.text ≡ l.target.hostlen
  pub inside : l.method + 1 + (l.target.host + l.target.hostlen) ≤ r.end
  pub end : h.end ≡ r.end
  pub fields : length (kept false h.lines) ≡ r.kept
  pub notes : r.notes ≡ notes_of true h.lines
  pub lie : AllLie s h.lines
  pub before : Each (Before r.end) h.lines

-- there is such a head
abbrev pub HeadKnown : List ℕ → RequestLine → Section → Type 0
HeadKnown s l r = (q : RequestRead) × (h : Lines) × HeadFacts s q h l r

-- what stands behind the head: an answer, and the ranges of chunks and trailers of an accepted message
abbrev pub RestSays : Answer Message → List ℕ → List ℕ → List ℕ → List ℕ → Outcome → Type 0
RestSays (accepted n m) cs cs' ts ts' r =
    (r ≡ Ok (record_of n m)) × (cs' ≡ splice cs 0 (chunks_numbers m.chunks)) × Stores ts 0 (fields_numbers (kept_trailers m.trailers)) ts'
RestSays (refused k p) cs cs' ts ts' r = r ≡ Err (Stop.Refused (refused_at k p))
RestSays more cs cs' ts ts' r = r ≡ Err Stop.More

-- the promise of what is read behind the request line that ends at `next`
abbrev pub BehindLineRead : Told → List ℕ → RequestLine → ℕ → List ℕ → List ℕ → List ℕ → List ℕ → List ℕ → List ℕ → Outcome → Type 0
BehindLineRead t s l next hs hs' cs cs' ts ts' r =
    Outcomed (run (after_request_line t (request_is s next l) (head_most - next)) next (drop next s)) hs hs' cs cs' ts ts' r

-- the promise of what is read behind any head that has these numbers
pub record RestRead (s : List ℕ) (t : Told) (l : RequestLine) (r : Section) (cs cs' ts ts' : List ℕ) (o : Outcome) : Type 0 where
  pub by : (q : RequestRead) (h : Lines) → HeadFacts s q h l r → RestSays (run (after_head t q h) r.end (drop r.end s)) cs cs' ts ts' o
