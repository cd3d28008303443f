-- The field question (01, "The two forms and the meaning between them", last point of what is needed): the first kept header value of a name, of the final
-- head in a response, else the default.
use Rattle.std.specs.Prelude.{ℕ, cond, List, [], ◌∷◌, map, length, Result, Ok, Err, Option, None, Some}
use Rattle.octets.specs.Refusals.{more_needed, refused_at}
use Rattle.octets.specs.declared.Refused.{Refused}
use Rattle.octets.specs.Text.{lower_of, same_text}
use Rattle.script.specs.Script.{Answer, accepted, refused, more}
use Rattle.script.specs.Do.{Piece}
use Rattle.messages.specs.declared.Told.{Told}
use Rattle.messages.specs.Message.{FieldRead, is_response, Message}
use Rattle.messages.specs.Names.{kept}
use Rattle.http1_lines.specs.Read.{read_request, read_response}
use Rattle.binary.specs.Read.{read_binary}

-- the first value of the name. Names of fields are compared in lower case, so a name that is not in lower case finds nothing
unfoldable pub first_of : List ℕ → List FieldRead → Option Piece
first_of name [] = None
first_of name (f ∷ fs) = cond (same_text (map lower_of f.name.text) name) (Some f.value) (first_of name fs)

-- an answer: the found part, or nothing for the whole default; or the message's refusal
abbrev pub Question : Type 0
Question = Result (Option Piece) Refused

-- from a reader's answer on an input of n octets: a refused message and a cut one give their number and place
abbrev pub question_of : List ℕ → ℕ → Answer Message → Question
question_of name n (accepted k m) = Ok (first_of name (kept (is_response m.start) m.lines))
question_of name n (refused k p) = Err (refused_at k p)
question_of name n more = Err (refused_at more_needed n)

-- what an answer found: nothing, for the whole default, where the message is refused
abbrev pub found_part : {A : Type 0} → Result (Option A) Refused → Option A
found_part (Ok f) = f
found_part (Err e) = None

-- the number that is lent: the refusal's, or 0
abbrev pub lent_number : {A : Type 0} → Result A Refused → ℕ
lent_number (Ok f) = 0
lent_number (Err e) = e.number

-- the place that is lent: the refusal's, or 0
abbrev pub lent_place : {A : Type 0} → Result A Refused → ℕ
lent_place (Ok f) = 0
lent_place (Err e) = e.place

-- the octets answered with: the found part's, or the default's
abbrev pub value_or : List ℕ → Option Piece → List ℕ
value_or default None = default
value_or default (Some w) = w.text

-- the question to each reader: of a request of the scheme told
unfoldable pub request_question : Told → List ℕ → List ℕ → Question
request_question t name s = question_of name (length s) (read_request t s)

-- of a response, told whether it answers a HEAD and whether the connection has closed
unfoldable pub response_question : Told → List ℕ → List ℕ → Question
response_question t name s = question_of name (length s) (read_response t s)

-- of a Binary message of the edition told
unfoldable pub binary_question : Told → List ℕ → List ℕ → Question
binary_question t name s = question_of name (length s) (read_binary t s)
