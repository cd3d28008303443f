-- For which octets a state and its room stand (02, item 13): the script of the whole request, after all octets so far, is as the rest of it is after the
-- octets of the present word. Of earlier lines only what the room keeps is spoken of.
use Rattle.std.specs.Prelude.{ℕ, suc, ◌+◌, ◌-◌, ◌*◌, ◌<◌, ◌≤◌, ◌≡◌, Bool, true, false, cond, not, List, [], ◌∷◌, ◌++◌, eqb, leb, ltb, length, get_or, take, drop}
use Rattle.octets.specs.Text.{is_empty}
use Rattle.octets.specs.Limits.{head_most, trailer_most, lines_most, chunk_line_most, chunks_most, content_most, method_most, authority_most, path_most}
use Rattle.octets.specs.Refusals.{bad_length, too_large}
use Rattle.script.specs.Script.{Answer, accepted, refused, more, Script, done, stop, need}
use Rattle.script.specs.Do.{◌>>=◌, Piece, piece, word, tell}
use Rattle.script.specs.Feed.{ended, after}
use Rattle.messages.specs.declared.Told.{Told}
use Rattle.messages.specs.declared.Kind.TheVariants as kind
use Rattle.messages.specs.declared.Body.TheVariants.{Sized, InChunks}
use Rattle.messages.specs.Message.{FieldRead, PathRead, Start, request_start, Message, plain_message}
use Rattle.messages.specs.Names.{lines_of, kept, kept_trailers, are_trailers}
use Rattle.messages.specs.Notes.{notes_of}
use Rattle.messages.specs.Meaning.{content_of}
use Rattle.messages.specs.Valid.{is_scheme}
use Rattle.http1_lines.specs.Lines.{RequestRead, request_of, chunk_of}
use Rattle.http1_lines.specs.Read.{Lines, Content, line_within, less, after_request_line, field_lines, trailer_section, chunks_from, after_chunk_line, content, after_head, request, read_request}
use Rattle.step_lines.specs.Stepping.{so_far, LineOpen}
use Rattle.step_lines.specs.Entries.{text_of, AllPlain}
use Rattle.step_lines.specs.declared.Present.{Present}
use Rattle.steps.specs.States.{SaneCounts}
use Rattle.steps.specs.declared.Answer.{Answer as StepAnswer}
use Rattle.steps.specs.declared.Answer.TheVariants as says
use Rattle.steps.specs.declared.Control.{Control}
use Rattle.steps.specs.declared.Phase.{Phase}
use Rattle.steps.specs.declared.Phase.TheVariants as phase
use Rattle.steps.specs.declared.State.{State}

-- ---- what stands behind: scripts of the first reader, by name

-- behind the request line w at the place `at`
abbrev pub request_rest : Told → ℕ → List ℕ → Script Message
request_rest t at w = tell (request_of t.scheme (piece at w)) >>= λ q. after_request_line t q (less head_most (piece at w))

-- behind the content
abbrev pub finishing : Start → List FieldRead → Content → Script Message
finishing g ls c = done (plain_message g ls c.chunks c.trailers)

-- behind the chunk line w at the place `at`, behind chunks cs of so many octets in all, where k goes on behind the content
abbrev pub chunk_rest : ℕ → List Piece → ℕ → (Content → Script Message) → ℕ → List ℕ → Script Message
chunk_rest f cs total k at w =
    (tell (chunk_of (piece at w)) >>= λ n.
    cond (eqb n 0) (trailer_section cs)
    (cond (leb chunks_most (length cs)) (stop too_large at)
    (cond (ltb content_most (total + n)) (stop too_large at) (after_chunk_line (chunks_from f) cs total n)))) >>= k

-- behind the trailer section
abbrev pub trailer_end : List Piece → Lines → Script Content
trailer_end cs h = cond (are_trailers h.lines) (done (record { chunks = cs; trailers = h.lines })) (stop bad_length h.end)

-- ---- control data in the room

-- the most octets that method, authority and path have together: 32, 255 and 4,096
abbrev pub control_most : ℕ
control_most = method_most + authority_most + path_most

-- method and path stand in the room
pub record Fronted (c : Control) (room : List ℕ) (m : Piece) (p : PathRead) : Type 0 where
  pub method : m.text ≡ take c.method room
  pub path : p.own.text ≡ take c.pathlen (drop c.path room)
  pub prefix : p.prefix ≡ c.prefix
  pub inside : (c.method ≤ c.end) × (c.path + c.pathlen ≤ c.end)

-- method, authority and path of a request stand in the room
pub record Keeps (c : Control) (room : List ℕ) (g : Start) : Type 0 where
  pub m : Piece
  pub a : Piece
  pub p : PathRead
  pub start : g ≡ request_start m c.scheme a p
  pub front : Fronted c room m p
  pub authority : a.text ≡ take c.hostlen (drop c.host room)
  pub inside : c.host + c.hostlen ≤ c.end
  pub small : c.end ≤ control_most

-- ---- by phase

module _ (t : Told) (st : State) (room s : List ℕ) where
  -- what holds of every state that is not refused
  pub record Reading : Type 0 where
    pub good : is_scheme t.scheme ≡ true
    pub scheme : st.control.scheme ≡ t.scheme
    pub counts : SaneCounts st

  pub record InRequestLine : Type 0 where
    pub common : Reading
    pub stands : after (request t) 0 s ≡ after (need (line_within st.present.left) (request_rest t)) st.present.at (so_far st.present room)
    pub line : LineOpen st.present room s
    pub whole : (st.present.at ≡ 0) × (st.present.left ≡ head_most) × (st.present.from ≡ 0) × (st.control.end ≡ 0)
    pub tally : (st.tally.chunks ≡ 0) × (st.tally.content ≡ 0) × (st.tally.trailers ≡ 0)

  pub record InHead : Type 0 where
    pub common : Reading
    pub q : RequestRead
    pub fs : List FieldRead
    pub stands : after (request t) 0 s ≡ after (field_lines (suc (lines_most - st.lines)) st.present.left fs >>= after_head t q) st.present.at (so_far st.present room)
    pub line : LineOpen st.present room s
    pub count : length fs ≡ st.lines
    pub allowed : st.present.at + st.present.left ≡ head_most
    pub notes : st.notes ≡ notes_of true fs
    pub plain : AllPlain fs
    pub behind : st.control.end ≤ st.present.from
    pub text : take st.present.from room ≡ take st.control.end room ++ text_of fs
    pub front : Fronted st.control room q.method q.path
    pub given : is_empty q.authority.text ≡ not st.control.given
    pub authority : st.control.given ≡ true
        → (q.authority.text ≡ take st.control.hostlen (drop st.control.host room)) × (st.control.host + st.control.hostlen ≤ st.control.end)
    pub host : (f : FieldRead) → lines_of kind.Host fs ≡ f ∷ [] → st.control.given ≡ false
        → (f.value.text ≡ take st.control.hostlen (drop st.control.host room))
        × (st.control.end ≤ st.control.host) × (st.control.host + st.control.hostlen ≤ st.present.from)
    pub tally : (st.tally.chunks ≡ 0) × (st.tally.content ≡ 0) × (st.tally.trailers ≡ 0)
    pub small : (st.control.given ≡ true → st.control.end ≤ control_most) × (st.control.given ≡ false → st.control.end ≤ method_most + path_most)

  -- the head is read: its lines ls, and the control data g
  pub record HeadRead (g : Start) (ls : List FieldRead) : Type 0 where
    pub common : Reading
    pub keeps : Keeps st.control room g
    pub space : head_most ≤ length room
    pub headers : st.tally.headers ≡ length (kept false ls)

  pub record InSized : Type 0 where
    pub g : Start
    pub ls : List FieldRead
    pub head : HeadRead g ls
    pub w : List ℕ
    pub stands : after (request t) 0 s ≡ after (content (Sized st.present.left) >>= finishing g ls) st.present.at w
    pub count : length w ≡ st.present.have
    pub short : st.present.have < st.present.left
    pub sizes : (st.present.at ≤ head_most) × (st.present.left ≤ content_most)
    pub none : st.tally.trailers ≡ 0

  pub record InChunkLine : Type 0 where
    pub g : Start
    pub ls : List FieldRead
    pub head : HeadRead g ls
    pub cs : List Piece
    pub stands : after (request t) 0 s
        ≡ after (need (line_within st.present.left) (chunk_rest (chunks_most - st.tally.chunks) cs st.tally.content (finishing g ls))) st.present.at (so_far st.present room)
    pub line : LineOpen st.present room s
    pub count : (length cs ≡ st.tally.chunks) × (length (content_of cs) ≡ st.tally.content)
    pub whole : (st.present.left ≡ chunk_line_most) × (st.present.from ≡ st.control.end)
    pub places : st.present.at + 258 * (chunks_most - st.tally.chunks) + (content_most - st.tally.content) ≤ 107008
    pub none : st.tally.trailers ≡ 0

  pub record InChunk : Type 0 where
    pub g : Start
    pub ls : List FieldRead
    pub head : HeadRead g ls
    pub cs : List Piece
    pub w : List ℕ
    pub stands : after (request t) 0 s
        ≡ after (after_chunk_line (chunks_from (chunks_most - st.tally.chunks)) cs st.tally.content st.tally.size >>= finishing g ls) st.present.at w
    pub all : length s ≡ st.present.at + st.present.have
    pub long : length w ≡ st.present.have
    pub short : st.present.have < st.present.left
    pub count : (length cs ≡ st.tally.chunks) × (length (content_of cs) ≡ st.tally.content) × (st.present.left ≡ st.tally.size + 2)
    pub end : st.tally.size < st.present.have → eqb (get_or w st.tally.size 0) 13 ≡ eqb st.present.cr 1
    pub sizes : (st.tally.chunks < chunks_most) × (st.tally.content + st.tally.size ≤ content_most)
    pub places : st.present.at + 258 * (chunks_most - st.tally.chunks) + (content_most - st.tally.content) ≤ 107264
    pub none : st.tally.trailers ≡ 0

  pub record InTrailers : Type 0 where
    pub g : Start
    pub ls : List FieldRead
    pub head : HeadRead g ls
    pub cs : List Piece
    pub fs : List FieldRead
    pub stands : after (request t) 0 s
        ≡ after (field_lines (suc (lines_most - st.lines)) st.present.left fs >>= λ h. trailer_end cs h >>= finishing g ls) st.present.at (so_far st.present room)
    pub line : LineOpen st.present room s
    pub count : length fs ≡ st.lines
    pub content : length (content_of cs) ≡ st.tally.content
    pub trailers : (st.tally.trailers ≡ length (kept_trailers fs)) × (st.notes ≡ notes_of true fs)
    pub whole : (st.present.from ≡ st.control.end) × (st.present.left ≤ trailer_most) × (st.present.at + st.present.left ≤ 110000)

  pub record AtEnd : Type 0 where
    pub message : Message
    pub good : is_scheme t.scheme ≡ true
    pub stands : after (request t) 0 s ≡ ended st.place message
    pub headers : st.tally.headers ≡ length (kept false message.lines)
    pub content : st.tally.content ≡ length (content_of message.chunks)
    pub trailers : st.tally.trailers ≡ length (kept_trailers message.trailers)
    pub keeps : Keeps st.control room message.start

  abbrev pub StandsIn : Phase → Type 0
  StandsIn phase.RequestLine = InRequestLine
  StandsIn phase.FieldLine = InHead
  StandsIn phase.Content = InSized
  StandsIn phase.ChunkLine = InChunkLine
  StandsIn phase.Chunk = InChunk
  StandsIn phase.TrailerLine = InTrailers
  StandsIn phase.Ended = AtEnd
  StandsIn phase.Refused = read_request t s ≡ refused st.number st.place

  -- state and room stand for the octets s of a request, of which t is told
  pub record Stands : Type 0 where
    pub by : StandsIn st.phase

-- the first reader's answer, as a step gives it
abbrev pub step_answer : Answer Message → StepAnswer
step_answer (accepted n m) = says.End n (length (kept false m.lines)) (length (content_of m.chunks)) (length (kept_trailers m.trailers))
step_answer (refused n p) = says.Refusal n p
step_answer more = says.More
