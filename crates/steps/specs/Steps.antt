-- One octet of a request, whatever is read (02, item 13): the state and the room behind it, and what a state answers.
use Rattle.std.specs.Prelude.{ℕ, ◌+◌, ◌-◌, ◌<◌, ◌≤◌, ◌≡◌, Bool, true, false, cond, List, [], ◌∷◌, leb, ltb, eqb, length, set}
use Rattle.octets.specs.Limits.{head_most}
use Rattle.octets.specs.Refusals.{bad_syntax, too_large, not_supported}
use Rattle.messages.specs.Notes.{no_notes}
use Rattle.messages.specs.Valid.{is_scheme}
use Rattle.messages.specs.declared.PathPrefix.TheVariants as prefix
use Rattle.step_lines.specs.Stepping.{line_step, line_text, fresh, one_more}
use Rattle.step_lines.specs.declared.LineStep.{LineStep}
use Rattle.step_lines.specs.declared.LineStep.TheVariants.{Goes, Whole, Bad, Long}
use Rattle.steps.specs.States.{Held, held, Gives, refuse, reading, is_line, is_data, is_counted}
use Rattle.steps.specs.Heads.{request_in, field_in}
use Rattle.steps.specs.Bodies.{content_octet, chunk_in, chunk_octet, trailer_in}
use Rattle.steps.specs.declared.Answer.{Answer}
use Rattle.steps.specs.declared.Answer.TheVariants as says
use Rattle.steps.specs.declared.Control.{Control}
use Rattle.steps.specs.declared.Tally.{Tally}
use Rattle.steps.specs.declared.Phase.{Phase}
use Rattle.steps.specs.declared.Phase.TheVariants as phase
use Rattle.steps.specs.declared.State.{State}
use Rattle.steps.specs.declared.Stepped.{Stepped}

-- ---- lines

-- behind a line that is whole, by what it is a line of
abbrev pub whole_by : Phase → State → List ℕ → Held
whole_by phase.RequestLine st room = request_in st room
whole_by phase.FieldLine st room = field_in st room
whole_by phase.Content st room = held st room
whole_by phase.ChunkLine st room = held (chunk_in st (line_text st.present room)) room
whole_by phase.Chunk st room = held st room
whole_by phase.TrailerLine st room = held (trailer_in st (line_text st.present room)) room
whole_by phase.Ended st room = held st room
whole_by phase.Refused st room = held st room

abbrev pub on_octet : State → List ℕ → ℕ → LineStep → Held
on_octet st room b (Goes c) = held (reading st st.phase (one_more st.present c)) (set room (st.present.from + st.present.have) b)
on_octet st room b Whole = whole_by st.phase st room
on_octet st room b Bad = held (refuse st bad_syntax st.present.at) room
on_octet st room b Long = held (refuse st too_large st.present.at) room

-- an octet of a line
unfoldable pub line_octet : State → List ℕ → ℕ → Held
line_octet st room b = on_octet st room b (line_step st.present.have st.present.left st.present.cr b)

-- the same of any state: one whose numbers stand for nothing stays
unfoldable pub line_taken : State → List ℕ → ℕ → Held
line_taken st room b = cond (is_line st.present st.control.end) (cond (is_counted st) (line_octet st room b) (held st room)) (held st room)

-- ---- any octet

-- octets that are not lines
abbrev pub data_by : Phase → State → ℕ → State
data_by phase.RequestLine st b = st
data_by phase.FieldLine st b = st
data_by phase.Content st b = content_octet st
data_by phase.ChunkLine st b = st
data_by phase.Chunk st b = chunk_octet st b
data_by phase.TrailerLine st b = st
data_by phase.Ended st b = st
data_by phase.Refused st b = st

unfoldable pub data_taken : State → ℕ → State
data_taken st b = cond (is_data st.present) (cond (is_counted st) (data_by st.phase st b) st) st

-- what is settled stays
abbrev pub taken_by : Phase → State → List ℕ → ℕ → Held
taken_by phase.RequestLine st room b = line_taken st room b
taken_by phase.FieldLine st room b = line_taken st room b
taken_by phase.Content st room b = held (data_taken st b) room
taken_by phase.ChunkLine st room b = line_taken st room b
taken_by phase.Chunk st room b = held (data_taken st b) room
taken_by phase.TrailerLine st room b = line_taken st room b
taken_by phase.Ended st room b = held st room
taken_by phase.Refused st room b = held st room

unfoldable pub taken : State → List ℕ → ℕ → Held
taken st room b = taken_by st.phase st room b

-- ---- answers

abbrev pub answer_by : Phase → State → Answer
answer_by phase.RequestLine st = says.More
answer_by phase.FieldLine st = says.More
answer_by phase.Content st = says.More
answer_by phase.ChunkLine st = says.More
answer_by phase.Chunk st = says.More
answer_by phase.TrailerLine st = says.More
answer_by phase.Ended st = says.End st.place st.tally.headers st.tally.content st.tally.trailers
answer_by phase.Refused st = says.Refusal st.number st.place

-- what a state says
unfoldable pub answer_in : State → Answer
answer_in st = answer_by st.phase st

-- 19: less room is lent than a head has
abbrev pub small_room : ℕ
small_room = 19

-- ---- the beginning

-- told a scheme, before the first octet
abbrev pub no_control : ℕ → Control
no_control scheme = record { scheme = scheme; given = false; method = 0; host = 0; hostlen = 0; path = 0; pathlen = 0; prefix = prefix.Nothing; end = 0 }

abbrev pub no_tally : Tally
no_tally = record { headers = 0; chunks = 0; content = 0; size = 0; trailers = 0 }

abbrev pub fresh₀ : ℕ → State
fresh₀ scheme = record {
  phase = phase.RequestLine;
  present = fresh 0 head_most 0;
  control = no_control scheme;
  lines = 0;
  notes = no_notes;
  tally = no_tally;
  number = 0;
  place = 0;
}

-- too little room is 19, then another scheme number is 4, both at 0
unfoldable pub begun : ℕ → ℕ → State
begun room scheme =
    cond (ltb room head_most) (refuse (fresh₀ scheme) small_room 0) (cond (is_scheme scheme) (fresh₀ scheme) (refuse (fresh₀ scheme) not_supported 0))

-- ---- a step

-- with too little room nothing is taken; else the octet is, and the answer is the state's
pub record Steps (st : State) (room : List ℕ) (b : ℕ) (r : Stepped) (room' : List ℕ) : Type 0 where
  pub small : length room < head_most → (r.state ≡ st) × (r.answer ≡ says.Refusal small_room 0) × (room' ≡ room)
  pub took : head_most ≤ length room → Gives (taken st room b) r.state room'
  pub answers : head_most ≤ length room → r.answer ≡ answer_in (taken st room b).state
