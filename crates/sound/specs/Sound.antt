-- What holds of every message that is accepted, in either form (00, demand 2; 01, "HTTP/1.1 as we take it", "Binary HTTP as we take it", "Sizes";
-- its last sentence: chunk lengths add up to the content's length; 02, item 5).
use Rattle.std.specs.Prelude.{ℕ, ◌+◌, ◌<◌, ◌≤◌, ◌≡◌, true, false, List, [], ◌∷◌, map, eqb, length, None}
use Rattle.octets.specs.Limits.{lines_most, chunks_most, informational_most, binary_most}
use Rattle.octets.specs.Text.{lower_of}
use Rattle.script.specs.Do.{Piece}
use Rattle.messages.specs.Message.{FieldRead, Start, request_start, response_start, Message}
use Rattle.messages.specs.Control.{ends_at_head, is_lower_name, is_trimmed_value}
use Rattle.messages.specs.Names.{are_trailers}
use Rattle.messages.specs.Rules.{agrees, stated_in}
use Rattle.messages.specs.Notes.{is_clashing}
use Rattle.messages.specs.declared.Framing.{Framing}
use Rattle.messages.specs.declared.Framing.TheVariants.{Unstated}
use Rattle.messages.specs.declared.Told.{Told}
use Rattle.messages.specs.Meaning.{content_of, meaning}
use Rattle.messages.specs.Valid.{valid}
use Rattle.sound.specs.Placed.{Each, OfParts, Inside, Placed}

-- a field line: its name in lower case obeys the rule of names, and its value has no blank at an end
pub record GoodLine (f : FieldRead) : Type 0 where
  pub name : is_lower_name (map lower_of f.name.text) ≡ true
  pub value : is_trimmed_value f.value.text ≡ true

-- the lines of a section, before dropping
pub record GoodSection (fs : List FieldRead) : Type 0 where
  pub lines : Each GoodLine fs
  pub few : length fs ≤ lines_most

-- the informational heads
abbrev pub GoodHeads : Start → Type 0
GoodHeads (request_start method s authority path) = Unit {0}
GoodHeads (response_start hs s) = Each (λ h. GoodSection h.lines) hs × (length hs ≤ informational_most)

-- the lengths of the pieces, added up
unfoldable pub lengths : List Piece → ℕ
lengths [] = 0
lengths (c ∷ cs) = length c.text + lengths cs

-- the chunks of the content
pub record GoodChunks (cs : List Piece) : Type 0 where
  pub full : Each (λ c. 0 < length c.text) cs
  pub few : length cs ≤ chunks_most
  pub sum : lengths cs ≡ length (content_of cs)

-- one statement of the length at most, and where it is a number it is the content's length; what a head states is read by the rules of its form
abbrev pub LengthAgrees : Framing → Message → Type 0
LengthAgrees f m = agrees f (length (content_of m.chunks)) ≡ true

-- the same of a response of status n, told t: where it ends at its head, what that states is its stated length; elsewhere the content is as long. 204 states nothing
pub record ResponseLength (t : Told) (n : ℕ) (f : Framing) (m : Message) : Type 0 where
  pub once : is_clashing f ≡ false
  pub none : eqb n 204 ≡ true → f ≡ Unstated
  pub stated : m.stated ≡ stated_in t n f
  pub agrees : ends_at_head t n ≡ false → LengthAgrees f m

-- by the control data: a request has no stated length
abbrev pub StatesLength : Told → Start → Framing → Message → Type 0
StatesLength t (request_start method s authority path) f m = LengthAgrees f m × (m.stated ≡ None)
StatesLength t (response_start hs n) f m = ResponseLength t n f m

-- a message m that is accepted from the input s
pub record Sound (s : List ℕ) (m : Message) : Type 0 where
  pub valid : valid (meaning m) ≡ true
  pub placed : Placed s m
  pub inside : OfParts (Inside (length s)) m
  pub heads : GoodHeads m.start
  pub lines : GoodSection m.lines
  pub chunks : GoodChunks m.chunks
  pub trailers : GoodSection m.trailers
  pub names : are_trailers m.trailers ≡ true
  -- no more integers are long than a Binary input has octets
  pub long : m.long ≤ binary_most
