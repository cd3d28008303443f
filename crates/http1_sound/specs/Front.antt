-- What holds of a reader that takes the first message from a stream (00, demand 3, last sentence; 01, "Streams under one scheme").
use Rattle.std.specs.Prelude.{ℕ, ◌<◌, ◌≤◌, ◌≡◌, List, [], ◌∷◌, ◌++◌, length}
use Rattle.script.specs.Script.{Answer, accepted, refused, Settled}
use Rattle.stream.specs.Taking.{Taken, message, waits, stops, take_off, resume}
use Rattle.messages.specs.Message.{Message}
use Rattle.messages.specs.Answers.{reading_of}
use Rattle.std.specs.Prelude.{Err}
use Rattle.messages.specs.declared.Stop.{Stop}
use Rattle.messages.specs.declared.Reading.{Reading}

-- the answers of a stream that is taken off message by message, ranges included, save a closing call for more octets
unfoldable pub answers : Taken Message → List Reading
answers (message n m t) = reading_of (accepted n m) ∷ answers t
answers (waits r) = []
answers (stops k p r) = reading_of (refused k p) ∷ []

-- the first answers of a list are these
pub record First (xs ys : List Reading) : Type 0 where
  pub others : List Reading
  pub split : ys ≡ xs ++ others

-- the claims on such a reader
pub record Front (read : List ℕ → Answer Message) : Type 0 where
  -- an answer that does not ask for more octets stays, whatever octets come behind
  pub stays : (s u : List ℕ) → Settled (read s) → read (s ++ u) ≡ read s
  -- the same of what a call answers with: outcome, length, refusal, place and ranges
  pub reading : (s u : List ℕ) → ((reading_of (read s)).outcome ≡ Err Stop.More → ⊥) → reading_of (read (s ++ u)) ≡ reading_of (read s)
  -- an accepted message is not empty, and lies within the stream
  pub within : (s : List ℕ) (n : ℕ) (m : Message) → read s ≡ accepted n m → (0 < n) × (n ≤ length s)
  -- taking off what has come, and then the rest, is taking off the whole
  pub resumes : (s u : List ℕ) → take_off read (s ++ u) ≡ resume read (take_off read s) u
  -- all answers on a stream alone, save a closing 1, are the first answers on the longer stream, ranges included
  pub first : (s u : List ℕ) → First (answers (take_off read s)) (answers (take_off read (s ++ u)))
