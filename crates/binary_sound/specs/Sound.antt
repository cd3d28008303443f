-- What holds of every message that is accepted from Binary HTTP (00, demand 2: "What is accepted, and what it means, is exactly what RFC 9112 and
-- RFC 9292 say, as changed by the rules of our own in document 01"; 01, "Binary HTTP as we take it", "Sizes"; 02, item 5).
use Rattle.std.specs.Prelude.{ℕ, ◌<◌, ◌≤◌, ◌≡◌, true, false, ◌⊎◌, List, [], ◌∷◌, eqb, length}
use Rattle.octets.specs.Limits.{binary_most}
use Rattle.octets.specs.Refusals.{cut_off, bad_edition}
use Rattle.script.specs.Script.{accepted, refused, Settled}
use Rattle.script.specs.Do.{Piece}
use Rattle.messages.specs.Message.{FieldRead, InformationalRead, Start, request_start, response_start, Message}
use Rattle.messages.specs.Control.{is_host, is_lower_name}
use Rattle.messages.specs.Names.{lines_of}
use Rattle.messages.specs.Rules.{binary_framing_of}
use Rattle.messages.specs.Meaning.{meaning}
use Rattle.messages.specs.Valid.{suits}
use Rattle.messages.specs.Told.{is_edition, answering}
use Rattle.messages.specs.declared.Told.{Told}
use Rattle.messages.specs.declared.Framing.TheVariants.{Unstated}
use Rattle.messages.specs.declared.Kind.TheVariants as kind
use Rattle.binary.specs.declared.Cursor.{Cursor}
use Rattle.binary.specs.Reader.{got, cursor, integer}
use Rattle.binary.specs.Read.{read_binary}
use Rattle.sound.specs.Placed.{Each}
use Rattle.sound.specs.Refusal.{Refusal}
use Rattle.sound.specs.Sound.{Sound, StatesLength}

-- "scheme is `http` or `https` (H). Authority may be empty if one `host` field gives it; with both, the bytes are equal": there is an authority, and the
-- host line, where there is one, has its octets
pub record GoodRequest (s : ℕ) (a : Piece) (lines : List FieldRead) : Type 0 where
  pub scheme : (s ≡ 0) ⊎ (s ≡ 1)
  pub some : 0 < length a.text
  pub host : is_host a.text ≡ true
  pub equal : Each (λ f. f.value.text ≡ a.text) (lines_of kind.Host lines)
  pub once : length (lines_of kind.Host lines) ≤ 1

-- "`content-length` stands .. not in .. informational heads"
abbrev pub GoodResponse : List InformationalRead → Type 0
GoodResponse hs = Each (λ h. binary_framing_of h.lines ≡ Unstated) hs

-- control data by the rule of their kind
abbrev pub GoodStart : Start → List FieldRead → Type 0
GoodStart (request_start method s authority path) lines = GoodRequest s authority lines
GoodStart (response_start hs n) lines = GoodResponse hs

-- "Names are lower-case tokens": as they stand, before any is made lower case
abbrev pub LowerName : FieldRead → Type 0
LowerName f = is_lower_name f.name.text ≡ true

-- the names in the informational heads
abbrev pub LowerHeads : Start → Type 0
LowerHeads (request_start method s authority path) = Unit {0}
LowerHeads (response_start hs n) = Each (λ h. Each LowerName h.lines) hs

-- all names of a message
pub record LowerNames (m : Message) : Type 0 where
  pub heads : LowerHeads m.start
  pub lines : Each LowerName m.lines
  pub trailers : Each LowerName m.trailers

-- a message m of length n that is accepted from the input s, told t: "a reader of Binary HTTP, whose whole input is one message"; "Zero bytes may follow", and
-- they belong to it
pub record SoundBinary (t : Told) (s : List ℕ) (n : ℕ) (m : Message) : Type 0 where
  pub sound : Sound s m
  pub some : 0 < n
  pub whole : n ≡ length s
  pub small : n ≤ binary_most
  pub start : GoodStart m.start m.lines
  pub suits : suits t (meaning m) ≡ true
  -- "`content-length` stands at most once, one or more digits, equal to the content's length"; where a response ends at its head, it is the stated length
  pub stated : StatesLength t m.start (binary_framing_of m.lines) m
  pub names : LowerNames m
  -- no more integers are not in their shortest form than the message has octets (02, item 8)
  pub long : m.long ≤ n

-- every accepted message is so
abbrev pub BinarySound : Type 0
BinarySound = (t : Told) (s : List ℕ) (n : ℕ) (m : Message) → read_binary t s ≡ accepted n m → SoundBinary t s n m

-- the numbers with which Binary HTTP is refused in an edition: 2 to 12 but 3, which is a version's (01, "Numbers a call answers with")
abbrev pub edition_numbers : List ℕ
edition_numbers = 2 ∷ 4 ∷ 5 ∷ 6 ∷ 7 ∷ 8 ∷ 9 ∷ 10 ∷ 11 ∷ 12 ∷ []

-- told an edition, every refused input is refused with one of them, at a place of the input
abbrev pub EditionRefused : Type 0
EditionRefused = (t : Told) (s : List ℕ) (n p : ℕ) → is_edition t.edition ≡ true → read_binary t s ≡ refused n p → Refusal edition_numbers s n p

-- told another number, every input is 17 at 0 (02, item 7)
abbrev pub OtherEdition : Type 0
OtherEdition = (t : Told) (s : List ℕ) → is_edition t.edition ≡ false → read_binary t s ≡ refused bad_edition 0

-- so the numbers are these and 17, whatever is told
abbrev pub binary_numbers : List ℕ
binary_numbers = 17 ∷ edition_numbers

abbrev pub BinaryRefused : Type 0
BinaryRefused = (t : Told) (s : List ℕ) (n p : ℕ) → read_binary t s ≡ refused n p → Refusal binary_numbers s n p

-- the whole input is there: no more octets are asked for
abbrev pub BinarySettled : Type 0
BinarySettled = (t : Told) (s : List ℕ) → Settled (read_binary t s)

-- whether the message answers a HEAD means nothing where the framing indicator is not a response's
abbrev pub BinaryHeadUnused : Type 0
BinaryHeadUnused =
    (t : Told) (h : ℕ) (s : List ℕ) (f : ℕ) (e : Cursor) (r : List ℕ) → integer cut_off 0 (cursor 0 0) s ≡ got f e r → eqb f 1 ≡ false → eqb f 3 ≡ false
    → read_binary (answering h t) s ≡ read_binary t s
