-- The steps of many octets (02, item 13): one after another, up to the first answer that asks for no more.
use Rattle.std.specs.Prelude.{ℕ, zero, suc, ◌+◌, ◌<◌, ◌≤◌, ◌≡◌, Bool, true, false, cond, ◌⊎◌, List, [], ◌∷◌, length}
use Rattle.octets.specs.Limits.{head_most}
use Rattle.steps.specs.States.{Held, held, Gives, reading, is_data, is_counted}
use Rattle.steps.specs.Steps.{taken, answer_in, small_room}
use Rattle.steps.specs.declared.Answer.TheVariants as says
use Rattle.steps.specs.declared.Phase.{Phase}
use Rattle.steps.specs.declared.Phase.TheVariants as phase
use Rattle.steps.specs.declared.Ran.{Ran}
use Rattle.steps.specs.declared.State.{State}

-- whether nothing more is asked for
abbrev pub is_settled : Phase → Bool
is_settled phase.RequestLine = false
is_settled phase.FieldLine = false
is_settled phase.Content = false
is_settled phase.ChunkLine = false
is_settled phase.Chunk = false
is_settled phase.TrailerLine = false
is_settled phase.Ended = true
is_settled phase.Refused = true

-- state and room behind the steps, and how many were taken
unfoldable pub ran_held : Held → List ℕ → Held
ran_held h [] = h
ran_held h (b ∷ s) = cond (is_settled h.state.phase) h (ran_held (taken h.state h.room b) s)

unfoldable pub ran_count : Held → List ℕ → ℕ
ran_count h [] = 0
ran_count h (b ∷ s) = cond (is_settled h.state.phase) 0 (suc (ran_count (taken h.state h.room b) s))

-- with too little room no octet is taken
pub record Runs (st : State) (room s : List ℕ) (r : Ran) (room' : List ℕ) : Type 0 where
  pub small : length room < head_most → (r.state ≡ st) × (r.taken ≡ 0) × (r.answer ≡ says.Refusal small_room 0) × (room' ≡ room)
  pub ran : head_most ≤ length room → Gives (ran_held (held st room) s) r.state room'
  pub count : head_most ≤ length room → r.taken ≡ ran_count (held st room) s
  pub answers : head_most ≤ length room → r.answer ≡ answer_in (ran_held (held st room) s).state

-- ---- octets of content and of chunks, passed over in one go

-- so many octets more of the present word, of which no more is to be known
abbrev pub passed : State → ℕ → State
passed st n = reading st st.phase (record { at = st.present.at; have = st.present.have + n; left = st.present.left; cr = st.present.cr; from = st.present.from })

-- n octets that are not the last of a content, or lie in the data of a chunk
pub record Passes (st : State) (n : ℕ) : Type 0 where
  pub data_is : is_data st.present ≡ true
  pub counted : is_counted st ≡ true
  pub short : st.present.have + n < st.present.left
  pub where-is : (st.phase ≡ phase.Content) ⊎ ((st.phase ≡ phase.Chunk) × (st.present.have + n ≤ st.tally.size))

-- as many of m octets as may be passed over
pub record MayPass (st : State) (m r : ℕ) : Type 0 where
  pub few : r ≤ m
  pub may : (r ≡ 0 → ⊥) → Passes st r
