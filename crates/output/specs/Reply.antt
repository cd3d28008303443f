-- What a public writer answers, and what it leaves in the octets that it was lent (01, "Numbers a call answers with": a refusal writes
-- nothing; success gives the length written, and all behind it stays).
use Rattle.std.specs.Prelude.{◌≡◌, cond, List, ℕ, ◌+◌, ◌-◌, leb, length, Result, Ok, Err}
use Rattle.octets.specs.Refusals.{no_room, refused_at}
use Rattle.output.specs.Splice.{splice}
use Rattle.octets.specs.declared.Refused.{Refused}

-- what a writer answers: how many octets it wrote, or the refusal
abbrev pub Written : Type 0
Written = Result ℕ Refused

-- what is to be written, whatever the room: octets, or a refusal with its number and its place
pub data Reply : Type 0 where
  writes : List ℕ → Reply
  refuses : ℕ → ℕ → Reply

-- the answer where there is room for so many octets
unfoldable pub written_of : Reply → ℕ → Written
written_of (writes bs) room = cond (leb (length bs) room) (Ok (length bs)) (Err (refused_at no_room 0))
written_of (refuses number place) room = Err (refused_at number place)

-- the lent octets afterwards
unfoldable pub lent_after : Reply → List ℕ → List ℕ
lent_after (writes bs) o = cond (leb (length bs) (length o)) (splice o 0 bs) o
lent_after (refuses number place) o = o

-- a writer that was lent o leaves o' and answers r
pub record Served (y : Reply) (o o' : List ℕ) (r : Written) : Type 0 where
  pub answer : r ≡ written_of y (length o)
  pub after : o' ≡ lent_after y o

-- the octets afterwards where the writer was lent those from the place k on
unfoldable pub lent_after_at : Reply → ℕ → List ℕ → List ℕ
lent_after_at (writes bs) k o = cond (leb (k + length bs) (length o)) (splice o k bs) o
lent_after_at (refuses number place) k o = o

-- the same of a writer that was lent o from the place k on
pub record ServedAt (y : Reply) (k : ℕ) (o o' : List ℕ) (r : Written) : Type 0 where
  pub answer : r ≡ written_of y (length o - k)
  pub after : o' ≡ lent_after_at y k o

-- 01's number for each case of a writer's answer
abbrev pub written_number : Written → ℕ
written_number (Ok n) = 0
written_number (Err e) = e.number

-- the length written, or the refusal's place
abbrev pub written_place : Written → ℕ
written_place (Ok n) = n
written_place (Err e) = e.place
