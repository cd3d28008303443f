-- Taking messages off a stream, and a list of a writer's calls (01, "Streams under one scheme"; 00, demand 3), for any reader and any writer.
use Rattle.std.specs.Prelude.{◌≡◌, ◌↔◌, List, [], ◌∷◌, ◌++◌, ℕ, zero, suc, ◌+◌, length, drop}
use Rattle.std.proofs.Math.Option.{Option, none, some}
use Rattle.script.specs.Script.{Answer, accepted, refused, more}

-- what is taken off: messages with their lengths, and then why it ends, with what is left
pub data Taken (A : Type 0) : Type 0 where
  message : ℕ → A → Taken A → Taken A
  waits : List ℕ → Taken A
  stops : ℕ → ℕ → List ℕ → Taken A

-- one answer on s: a message, and then what `go` takes from the octets behind it; any other answer is the end
abbrev pub next : {A : Type 0} → Answer A → List ℕ → (List ℕ → Taken A) → Taken A
next (accepted n a) s go = message n a (go (drop n s))
next (refused k p) s go = stops k p s
next more s go = waits s

-- for a reader of the first message of a stream
module _ {A : Type 0} (read : List ℕ → Answer A) where
  -- taking off, where at most so many answers are asked for
  unfoldable pub take_f : ℕ → List ℕ → Taken A
  take_f zero s = waits s
  take_f (suc f) s = next (read s) s (λ r. take_f f r)

  -- taking off (01's term): message after message, up to the first answer that accepts none. Where no message is empty the bound is not reached
  unfoldable pub take_off : List ℕ → Taken A
  take_off s = take_f (suc (length s)) s

  -- going on when u has come
  unfoldable pub resume : Taken A → List ℕ → Taken A
  resume (message n a t) u = message n a (resume t u)
  resume (waits r) u = take_off (r ++ u)
  resume (stops k p r) u = stops k p (r ++ u)

-- messages in front
abbrev pub onto : {A : Type 0} → List (ℕ × A) → Taken A → Taken A
onto [] t = t
onto (e ∷ es) t = message e.0 e.1 (onto es t)

-- ---- calls of a writer

-- what a call wrote, in front of what later calls write; a refused call wrote nothing
abbrev pub add_octets : Option (List ℕ) → List ℕ → List ℕ
add_octets none s = s
add_octets (some b) s = b ++ s

-- its length and its value, in front of those of later calls
abbrev pub add_entry : {A : Type 0} → Option (List ℕ) → A → List (ℕ × A) → List (ℕ × A)
add_entry none a es = es
add_entry (some b) a es = (length b, a) ∷ es

-- its value alone
abbrev pub add_call : {A : Type 0} → Option (List ℕ) → A → List A → List A
add_call none a cs = cs
add_call (some b) a cs = a ∷ cs

-- for a writer, which gives octets or refuses
module _ {A : Type 0} (write : A → Option (List ℕ)) where
  -- the octets that the calls write, one behind the other
  unfoldable pub stream : List A → List ℕ
  stream [] = []
  stream (a ∷ cs) = add_octets (write a) (stream cs)

  -- the accepted calls, each with the length written
  unfoldable pub entries : List A → List (ℕ × A)
  entries [] = []
  entries (a ∷ cs) = add_entry (write a) a (entries cs)

  -- the accepted calls
  unfoldable pub sent : List A → List A
  sent [] = []
  sent (a ∷ cs) = add_call (write a) a (sent cs)

-- a writer and a reader of one stream agree; room is not looked at. The claim of 00, demand 3, with its lent space, is demands/specs/Demand3
pub record Faithful {A : Type 0} (write : A → Option (List ℕ)) (read : List ℕ → Answer A) : Type 0 where
  -- the accepted calls come off first, in order, and the rest is as if nothing had stood in front
  pub taken : (calls : List A) (behind : List ℕ) → take_off read (stream write calls ++ behind) ≡ onto (entries write calls) (take_off read behind)
  -- equal octets are equal accepted calls
  pub same : (cs ds : List A) → (stream write cs ≡ stream write ds) ↔ (sent write cs ≡ sent write ds)
  -- taking off what has come, and then the rest, is taking off the whole
  pub resumes : (s u : List ℕ) → take_off read (s ++ u) ≡ resume read (take_off read s) u
