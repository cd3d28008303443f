-- What holds of every message that is accepted from HTTP/1.1 (00, demand 2, and the case it begins with: two statements of a length;
-- 01, "HTTP/1.1 as we take it"; 02, items 2, 5 and 10).
use Rattle.std.specs.Prelude.{ℕ, ◌+◌, ◌<◌, ◌≤◌, ◌≡◌, true, false, ◌⊎◌, List, [], ◌∷◌, length}
use Rattle.script.specs.Script.{accepted, refused, Settled}
use Rattle.script.specs.Do.{Piece}
use Rattle.messages.specs.Told.{is_yes, answering, closing}
use Rattle.messages.specs.declared.Told.{Told}
use Rattle.messages.specs.Message.{FieldRead, PathRead, Start, request_start, response_start, Message}
use Rattle.messages.specs.Control.{ends_at_head}
use Rattle.messages.specs.Names.{lines_of}
use Rattle.messages.specs.Rules.{framing_of}
use Rattle.messages.specs.Meaning.{meaning}
use Rattle.messages.specs.Valid.{suits}
use Rattle.messages.specs.declared.Framing.TheVariants.{Unstated}
use Rattle.messages.specs.declared.Kind.TheVariants as kind
use Rattle.http1_lines.specs.Read.{read_request, read_response}
use Rattle.http1_sound.specs.Front.{Front}
use Rattle.sound.specs.Sound.{Sound, StatesLength}
use Rattle.sound.specs.Refusal.{Refusal}

-- the authority stands in the target, right before the path's own octets (02, item 2)
abbrev pub InTarget : Piece → PathRead → Type 0
InTarget authority path = authority.place + length authority.text ≡ path.own.place

-- a request of the scheme that was told; host stands exactly once, and it is the authority where the target has none
abbrev pub IsRequest : Told → List FieldRead → Start → Type 0
IsRequest t lines (request_start method s authority path) =
    (s ≡ t.scheme) × (f : FieldRead) × (lines_of kind.Host lines ≡ f ∷ []) × ((authority ≡ f.value) ⊎ InTarget authority path)
IsRequest t lines (response_start hs s) = ⊥

-- a response, of any status
abbrev pub IsResponse : Start → Type 0
IsResponse (request_start method s authority path) = ⊥
IsResponse (response_start hs s) = Unit {0}

-- a response that may have content, and whose head has neither length line
abbrev pub Unmeasured : Told → List FieldRead → Start → Type 0
Unmeasured t lines (request_start method s authority path) = ⊥
Unmeasured t lines (response_start hs n) = (ends_at_head t n ≡ false) × (framing_of lines ≡ Unstated)

-- a request m of length n that is accepted from the stream s
pub record SoundRequest (t : Told) (s : List ℕ) (n : ℕ) (m : Message) : Type 0 where
  pub sound : Sound s m
  pub request : IsRequest t m.lines m.start
  pub suits : suits t (meaning m) ≡ true
  pub stated : StatesLength t m.start (framing_of m.lines) m
  pub some : 0 < n
  pub within : n ≤ length s

-- a response m of length n that is accepted from the stream s, told t
pub record SoundResponse (t : Told) (s : List ℕ) (n : ℕ) (m : Message) : Type 0 where
  pub sound : Sound s m
  pub response : IsResponse m.start
  pub suits : suits t (meaning m) ≡ true
  pub stated : StatesLength t m.start (framing_of m.lines) m
  pub some : 0 < n
  pub within : n ≤ length s
  -- such a response is as long as the stream (02, item 10: "the message is as long as the input")
  pub whole : Unmeasured t m.lines m.start → n ≡ length s
  -- and it is accepted only of a connection that has closed (02, item 10: "open it is 1, or 8")
  pub closed : Unmeasured t m.lines m.start → is_yes t.closed ≡ true

-- so is every accepted request, under whatever scheme is told
abbrev pub RequestsSound : Type 0
RequestsSound = (t : Told) (s : List ℕ) (n : ℕ) (m : Message) → read_request t s ≡ accepted n m → SoundRequest t s n m

-- so is every accepted response, whatever is told
abbrev pub ResponsesSound : Type 0
ResponsesSound = (t : Told) (s : List ℕ) (n : ℕ) (m : Message) → read_response t s ≡ accepted n m → SoundResponse t s n m

-- the numbers with which a request is refused: all of HTTP/1.1 but 5, which is a status's (01, "Numbers a call answers with"); 14 where its target has another
-- scheme (02, item 2)
abbrev pub request_numbers : List ℕ
request_numbers = 2 ∷ 3 ∷ 4 ∷ 6 ∷ 7 ∷ 8 ∷ 14 ∷ []

-- those with which a response is refused: all but 6, which is a host's
abbrev pub response_numbers : List ℕ
response_numbers = 2 ∷ 3 ∷ 4 ∷ 5 ∷ 7 ∷ 8 ∷ []

-- every refused request, under whatever scheme is told, is refused with one of its numbers, at a place of the input
abbrev pub RequestsRefused : Type 0
RequestsRefused = (t : Told) (s : List ℕ) (n p : ℕ) → read_request t s ≡ refused n p → Refusal request_numbers s n p

-- so is every refused response
abbrev pub ResponsesRefused : Type 0
ResponsesRefused = (t : Told) (s : List ℕ) (n p : ℕ) → read_response t s ≡ refused n p → Refusal response_numbers s n p

-- what the reader of responses settles while the connection is open stays when it has closed: with a length line, in chunks or ended at its head a response is as it
-- was, and so is every refusal; only a call for more octets may become another answer (02, item 10)
abbrev pub ClosedLater : Type 0
ClosedLater = (t : Told) (c : ℕ) (s : List ℕ) → Settled (read_response (closing 0 t) s) → read_response (closing c t) s ≡ read_response (closing 0 t) s

-- the claims on both readers of HTTP/1.1, whatever a call is told; that a message answers a HEAD, or that the connection has closed, means nothing of a request. A
-- stream of responses goes on only while the connection is open: what is read when it has closed may be as long as the input
pub record Http1Reads : Type 0 where
  pub requests : (t : Told) → Front (read_request t)
  pub responses : (t : Told) → is_yes t.closed ≡ false → Front (read_response t)
  pub requests_sound : RequestsSound
  pub responses_sound : ResponsesSound
  pub head_unused : (t : Told) (h : ℕ) (s : List ℕ) → read_request (answering h t) s ≡ read_request t s
  pub closed_later : ClosedLater
  pub closed_unused : (t : Told) (c : ℕ) (s : List ℕ) → read_request (closing c t) s ≡ read_request t s
