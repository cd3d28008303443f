-- Where the parts of a message as read stand in its input (01, "The two forms and the meaning between them": ranges name control data, fields and
-- content chunks). Of messages from either form.
use Rattle.std.specs.Prelude.{ℕ, ◌+◌, ◌≤◌, List, [], ◌∷◌, length}
use Rattle.script.specs.Script.{Lies}
use Rattle.script.specs.Do.{Piece}
use Rattle.messages.specs.Message.{FieldRead, Start, request_start, response_start, Message}

-- P holds of each of a list
abbrev pub Each : {A : Type 0} → (A → Type 0) → List A → Type 0
Each P [] = Unit {0}
Each P (x ∷ xs) = P x × Each P xs

-- P holds of a line's name and value
pub record OfLine (P : Piece → Type 0) (f : FieldRead) : Type 0 where
  pub name : P f.name
  pub value : P f.value

-- P holds of each part of the control data; informational heads with their lines are among them
abbrev pub OfStart : (Piece → Type 0) → Start → Type 0
OfStart P (request_start method s authority path) = P method × P authority × P path.own
OfStart P (response_start hs s) = Each (λ h. Each (OfLine P) h.lines) hs

-- P holds of each part of a message
pub record OfParts (P : Piece → Type 0) (m : Message) : Type 0 where
  pub start : OfStart P m.start
  pub lines : Each (OfLine P) m.lines
  pub chunks : Each P m.chunks
  pub trailers : Each (OfLine P) m.trailers

-- the input s has the piece's octets at its place
abbrev pub Lying : List ℕ → Piece → Type 0
Lying s p = Lies s p.place p.text

-- the piece's place, and where it ends, are within an input of n octets
abbrev pub Inside : ℕ → Piece → Type 0
Inside n p = p.place + length p.text ≤ n

-- each part of the message is what the input has at its place
abbrev pub Placed : List ℕ → Message → Type 0
Placed s m = OfParts (Lying s) m
