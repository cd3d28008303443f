-- The one claim about every list of calls (02, item 13): each answer is the first reader's on the octets since the request was begun.
use Rattle.std.specs.Prelude.{ℕ, ◌≡◌, Bool, true, false, cond, List, [], ◌∷◌, ◌++◌, ltb, length}
use Rattle.octets.specs.Limits.{head_most}
use Rattle.messages.specs.Told.{plain}
use Rattle.http1_lines.specs.Read.{read_request}
use Rattle.steps.specs.States.{Held, held}
use Rattle.steps.specs.Steps.{taken, answer_in, begun, small_room}
use Rattle.steps.specs.Standing.{step_answer}
use Rattle.steps.specs.declared.Answer.{Answer}
use Rattle.steps.specs.declared.Answer.TheVariants as says

-- a call: a step with an octet; a step with an octet that is lent too little room; a fresh beginning in a lent room, told a scheme
pub data Call : Type 0 where
  octet : ℕ → Call
  little : ℕ → Call
  afresh : List ℕ → ℕ → Call

-- ---- what the code does: `step` and `begin` give just this (Steps; `begin` is `begun`)

abbrev pub after_call : Held → Call → Held
after_call h (octet b) = taken h.state h.room b
after_call h (little b) = h
after_call h (afresh o k) = held (begun (length o) k) o

abbrev pub answer_to : Held → Call → Answer
answer_to h (octet b) = answer_in (taken h.state h.room b).state
answer_to h (little b) = says.Refusal small_room 0
answer_to h (afresh o k) = answer_in (begun (length o) k)

unfoldable pub answers_of : Held → List Call → List Answer
answers_of h [] = []
answers_of h (c ∷ cs) = answer_to h c ∷ answers_of (after_call h c) cs

-- ---- what is wanted

-- what was begun: a request on a connection of a scheme, of which these octets are in; or nothing, for want of room
pub data Since : Type 0 where
  request : ℕ → List ℕ → Since
  nothing : Since

-- the first reader's answer, told the scheme
abbrev pub wanted : Since → Answer
wanted (request k s) = step_answer (read_request (plain k) s)
wanted nothing = says.Refusal small_room 0

abbrev pub one_octet : Since → ℕ → Since
one_octet (request k s) b = request k (s ++ b ∷ [])
one_octet nothing b = nothing

abbrev pub since_call : Since → Call → Since
since_call x (octet b) = one_octet x b
since_call x (little b) = x
since_call x (afresh o k) = cond (ltb (length o) head_most) nothing (request k [])

abbrev pub wanted_to : Since → Call → Answer
wanted_to x (octet b) = wanted (one_octet x b)
wanted_to x (little b) = says.Refusal small_room 0
wanted_to x (afresh o k) = wanted (cond (ltb (length o) head_most) nothing (request k []))

unfoldable pub wanted_of : Since → List Call → List Answer
wanted_of x [] = []
wanted_of x (c ∷ cs) = wanted_to x c ∷ wanted_of (since_call x c) cs
