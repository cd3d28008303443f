-- States of a request that is read one octet at a step (02, item 13): small changes, and which numbers the code takes.
use Rattle.std.specs.Prelude.{ℕ, ◌+◌, ◌-◌, ◌<◌, ◌≤◌, ◌≡◌, Bool, true, false, cond, List, [], ◌∷◌, leb, ltb, eqb, length, take, drop}
use Rattle.octets.specs.Limits.{head_most, lines_most, chunks_most, content_most}
use Rattle.octets.specs.Refusals.{too_large}
use Rattle.messages.specs.declared.Notes.{Notes}
use Rattle.step_lines.specs.Stepping.{fresh, one_more, next_present}
use Rattle.step_lines.specs.declared.Present.{Present}
use Rattle.steps.specs.declared.Control.{Control}
use Rattle.steps.specs.declared.Tally.{Tally}
use Rattle.steps.specs.declared.Phase.{Phase}
use Rattle.steps.specs.declared.Phase.TheVariants as phase
use Rattle.steps.specs.declared.State.{State}

-- a state with its room
pub record Held : Type 0 where
  pub state : State
  pub room : List ℕ

abbrev pub held : State → List ℕ → Held
held st room = record { state = st; room = room }

-- what a function answers that may change the room: the state and the room that are held
pub record Gives (h : Held) (r : State) (room' : List ℕ) : Type 0 where
  pub state : r ≡ h.state
  pub room : room' ≡ h.room

-- refused with a number at a place
abbrev pub refuse : State → ℕ → ℕ → State
refuse st n p = record {
  phase = phase.Refused;
  present = st.present;
  control = st.control;
  lines = st.lines;
  notes = st.notes;
  tally = st.tally;
  number = n;
  place = p;
}

-- ended at a place, with these counts
abbrev pub finish : State → ℕ → Tally → State
finish st p t = record {
  phase = phase.Ended;
  present = st.present;
  control = st.control;
  lines = st.lines;
  notes = st.notes;
  tally = t;
  number = st.number;
  place = p;
}

-- the same with another word
abbrev pub reading : State → Phase → Present → State
reading st x l = record {
  phase = x;
  present = l;
  control = st.control;
  lines = st.lines;
  notes = st.notes;
  tally = st.tally;
  number = st.number;
  place = st.place;
}

-- the same before a line of a section of which so many lines are read, and this is noted of them
abbrev pub in_section : State → Phase → Present → ℕ → Notes → State
in_section st x l k n = record {
  phase = x;
  present = l;
  control = st.control;
  lines = k;
  notes = n;
  tally = st.tally;
  number = st.number;
  place = st.place;
}

-- the same with other control data, and with other counts
abbrev pub with_control : State → Control → State
with_control st c = record {
  phase = st.phase;
  present = st.present;
  control = c;
  lines = st.lines;
  notes = st.notes;
  tally = st.tally;
  number = st.number;
  place = st.place;
}

abbrev pub with_tally : State → Tally → State
with_tally st t = record {
  phase = st.phase;
  present = st.present;
  control = st.control;
  lines = st.lines;
  notes = st.notes;
  tally = t;
  number = st.number;
  place = st.place;
}

-- a line that begins; where nothing is left of the allowance it is too long at once
unfoldable pub begins : State → State
begins st = cond (eqb st.present.left 0) (refuse st too_large st.present.at) st

-- ---- numbers that no sum leaves: what the code tests of any state, and what every state has that stands for octets

-- above every place in a message
abbrev pub place_most : ℕ
place_most = 1048576

-- of a line, behind control data that end at e
pub record SaneLine (l : Present) (e : ℕ) : Type 0 where
  pub place : l.at ≤ place_most
  pub count : l.have < l.left
  pub size : l.left ≤ head_most
  pub start : l.from ≤ head_most
  pub room : l.from + l.have < head_most
  pub behind : e ≤ l.from

unfoldable pub is_line : Present → ℕ → Bool
is_line l e =
    cond (leb l.at place_most)
    (cond (ltb l.have l.left)
    (cond (leb l.left head_most)
    (cond (leb l.from head_most) (cond (ltb (l.from + l.have) head_most) (leb e l.from) false) false)
    false)
    false)
    false

-- of other octets
pub record SaneData (l : Present) : Type 0 where
  pub place : l.at ≤ place_most
  pub count : l.have < l.left
  pub size : l.left ≤ content_most + 2

unfoldable pub is_data : Present → Bool
is_data l = cond (leb l.at place_most) (cond (ltb l.have l.left) (leb l.left (content_most + 2)) false) false

-- counts
pub record SaneCounts (st : State) : Type 0 where
  pub lines : st.lines ≤ lines_most
  pub host : st.control.host ≤ head_most
  pub hostlen : st.control.hostlen ≤ head_most
  pub chunks : st.tally.chunks ≤ chunks_most
  pub content : st.tally.content ≤ content_most
  pub size : st.tally.size ≤ content_most
  pub trailers : st.tally.trailers ≤ lines_most

unfoldable pub is_tally : Tally → Bool
is_tally t =
    cond (leb t.chunks chunks_most) (cond (leb t.content content_most) (cond (leb t.size content_most) (leb t.trailers lines_most) false) false) false

unfoldable pub is_counted : State → Bool
is_counted st =
    cond (leb st.lines lines_most)
    (cond (leb st.control.host head_most) (cond (leb st.control.hostlen head_most) (is_tally st.tally) false) false)
    false
