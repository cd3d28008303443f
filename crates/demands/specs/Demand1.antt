-- Demand 1 (00): "A refusal names its number and the byte where it arose, and not one byte of the space lent for output is altered". By 01, "Numbers a call
-- answers with", the number is one of those that the call can refuse with, each call's given here once as a set; the place is one of the input; and a refusal
-- gives no ranges and writes nothing. One statement of the three readers, the four turnings and the field question: `Demand1`. The C entries are in
-- `boundary`.
use Rattle.std.specs.Prelude.{ℕ, ◌≤◌, ◌≡◌, true, false, ◌↔◌, List, ◌∷◌, length, Ok, Err, None}
use Rattle.octets.specs.Refusals.{more_needed, bad_edition, refused_at}
use Rattle.script.specs.Script.{Answer, accepted, refused, more, Settled}
use Rattle.messages.specs.declared.Told.{Told}
use Rattle.messages.specs.Told.{is_edition}
use Rattle.messages.specs.Message.{Message}
use Rattle.messages.specs.Answers.{no_ranges, reading_of, number_of}
use Rattle.sound.specs.Refusal.{is_one_of}
use Rattle.http1_lines.specs.Read.{read_request, read_response}
use Rattle.http1_sound.specs.Read.{request_numbers, response_numbers}
use Rattle.binary.specs.Read.{read_binary}
use Rattle.binary_sound.specs.Sound.{edition_numbers, binary_numbers}
use Rattle.output.specs.Reply.{Reply, refuses, written_of, lent_after, written_number}
use Rattle.turn.specs.Turn.{request_to_binary, response_to_binary, binary_to_binary, binary_to_http1}
use Rattle.turn.specs.Question.{Question, found_part, lent_number, lent_place, request_question, response_question, binary_question}

-- one of these numbers, at an octet of the input s or right behind its last, where something is missing
abbrev pub RefusalOf : List ℕ → List ℕ → ℕ → ℕ → Type 0
RefusalOf numbers s number place = (is_one_of numbers number ≡ true) × (place ≤ length s)

-- ---- reading

-- 01's number for a reader's answer
abbrev pub read_number : Answer Message → ℕ
read_number x = number_of (reading_of x).outcome

-- the answer is a message with its length
abbrev pub IsAccepted : Answer Message → Type 0
IsAccepted x = (n : ℕ) × (m : Message) × (x ≡ accepted n m)

-- what the numbers of a reader say, which refuses with these
pub record ReadNumbers (numbers : List ℕ) (read : List ℕ → Answer Message) : Type 0 where
  -- every refusal
  pub refusals : (s : List ℕ) (k p : ℕ) → read s ≡ refused k p → RefusalOf numbers s k p
  -- a call answers 0 exactly where the message is accepted
  pub accepts : (s : List ℕ) → (read_number (read s) ≡ 0) ↔ IsAccepted (read s)
  -- it answers 1 exactly where more octets are needed
  pub needs : (s : List ℕ) → (read_number (read s) ≡ more_needed) ↔ (read s ≡ more)
  -- where it does not answer 0 it gives no ranges
  pub unranged : (s : List ℕ) → (read_number (read s) ≡ 0 → ⊥) → (reading_of (read s)).ranges ≡ no_ranges

-- ---- turning

-- what the numbers of a turning say, which refuses with these whatever the room
pub record TurnNumbers (numbers : List ℕ) (turn : List ℕ → Reply) : Type 0 where
  -- every refusal, whatever the room: the reader's, or that the message can't be written
  pub refusals : (s : List ℕ) (k p : ℕ) → turn s ≡ refuses k p → RefusalOf numbers s k p
  -- every refusal in a room: these, or that the room is too small
  pub in_room : (s : List ℕ) (room k p : ℕ) → written_of (turn s) room ≡ Err (refused_at k p) → RefusalOf (13 ∷ numbers) s k p
  -- a call answers 0 exactly where it wrote octets
  pub writes : (s : List ℕ) (room : ℕ) → (written_number (written_of (turn s) room) ≡ 0) ↔ ((n : ℕ) × (written_of (turn s) room ≡ Ok n))
  -- where it does not answer 0, not one octet of the lent space o is altered
  pub unaltered : (s o : List ℕ) → (written_number (written_of (turn s) (length o)) ≡ 0 → ⊥) → lent_after (turn s) o ≡ o

-- ---- the field question

-- what the lent number and place receive, where the message's reader refuses with these numbers: the message's refusal, and then nothing is found; or 0
pub record AskNumbers (numbers : List ℕ) (ask : List ℕ → List ℕ → Question) : Type 0 where
  pub receives : (name s : List ℕ) → RefusalOf (0 ∷ numbers) s (lent_number (ask name s)) (lent_place (ask name s))
  pub default : (name s : List ℕ) → (lent_number (ask name s) ≡ 0 → ⊥) → found_part (ask name s) ≡ None

-- ---- the claim

-- demand 1 on refusals: of each reader, each turning and each field question, whatever is told
pub record Demand1 : Type 0 where
  -- the readers of HTTP/1.1
  pub requests : (t : Told) → ReadNumbers request_numbers (read_request t)
  pub responses : (t : Told) → ReadNumbers response_numbers (read_response t)
  -- the reader of Binary HTTP: 17 at 0 where the number told is no edition's, else any of the others (02, item 7); and it never asks for more
  pub binaries : (t : Told) → ReadNumbers binary_numbers (read_binary t)
  pub editions : (t : Told) (s : List ℕ) (k p : ℕ) → is_edition t.edition ≡ true → read_binary t s ≡ refused k p → RefusalOf edition_numbers s k p
  pub other_edition : (t : Told) (s : List ℕ) → is_edition t.edition ≡ false → read_binary t s ≡ refused bad_edition 0
  pub whole : (t : Told) (s : List ℕ) → Settled (read_binary t s)
  -- the four turnings: a reader of a stream may need more octets (1); 14 is of HTTP/1.1's connections alone
  pub requests_turned : (t : Told) → TurnNumbers (1 ∷ request_numbers) (request_to_binary t)
  pub responses_turned : (t : Told) → TurnNumbers (1 ∷ response_numbers) (response_to_binary t)
  pub binaries_anew : (t : Told) → TurnNumbers binary_numbers (binary_to_binary t)
  pub binaries_turned : (t : Told) → TurnNumbers (14 ∷ binary_numbers) (binary_to_http1 t)
  -- the field question to each reader
  pub requests_asked : (t : Told) → AskNumbers (1 ∷ request_numbers) (request_question t)
  pub responses_asked : (t : Told) → AskNumbers (1 ∷ response_numbers) (response_question t)
  pub binaries_asked : (t : Told) → AskNumbers binary_numbers (binary_question t)
