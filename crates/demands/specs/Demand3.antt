-- Demand 3 (00; 01, "Streams under one scheme"; 02, items 5 and 7): a list of calls of the HTTP/1.1 writer under one scheme, in one lent space, and what the request reader
-- takes off the octets that they leave there. A single claim about the whole list: `Demand3`.
use Rattle.std.specs.Prelude.{ℕ, ◌+◌, ◌≤◌, ◌≡◌, false, ◌↔◌, List, [], ◌∷◌, ◌++◌, map, length, take, drop, Ok, Err}
use Rattle.script.specs.Script.{Answer, accepted, refused, more, means}
use Rattle.stream.specs.Taking.{waits, take_f, take_off, resume, onto}
use Rattle.messages.specs.Told.{answering, in_edition}
use Rattle.messages.specs.declared.Told.{Told}
use Rattle.messages.specs.Message.{Message}
use Rattle.messages.specs.Meaning.{Meaning, meaning}
use Rattle.messages.specs.Answers.{reading_of}
use Rattle.messages.specs.Valid.{of_response}
use Rattle.messages.specs.declared.Stop.{Stop}
use Rattle.sound.specs.Placed.{Each}
use Rattle.http1_lines.specs.Read.{read_request}
use Rattle.http1_sound.specs.Front.{answers, First}
use Rattle.binary.specs.Read.{read_binary}
use Rattle.output.specs.Reply.{Reply, written_of, lent_after, Served, ServedAt, Written}
use Rattle.turn.specs.Turn.{binary_to_http1}
use Rattle.octets.specs.Refusals.{refused_at}

-- ---- one call

-- a call: whether its message answers a HEAD, its Binary input, and the edition of that. The scheme is that of the whole list
pub record Call : Type 0 where
  pub head : ℕ
  pub input : List ℕ
  pub edition : ℕ

-- what it is told
abbrev pub told_of : Told → Call → Told
told_of t c = in_edition c.edition (answering c.head t)

-- what it is to write
abbrev pub reply_of : Told → Call → Reply
reply_of t c = binary_to_http1 (told_of t c) c.input

-- the lent space, and how many octets of it the calls have written
pub record Space : Type 0 where
  pub whole : List ℕ
  pub written : ℕ

-- "starts with nothing written"
abbrev pub fresh : List ℕ → Space
fresh o = record { whole = o; written = 0 }

-- "each call gets the lent space behind what the calls before it wrote"
abbrev pub lent_in : Space → List ℕ
lent_in z = drop z.written z.whole

-- what the call c answers
unfoldable pub answer_in : Told → Space → Call → Written
answer_in t z c = written_of (reply_of t c) (length (lent_in z))

-- the octets that a call says it wrote; a refused call wrote none
abbrev pub long_of : Written → ℕ
long_of (Ok n) = n
long_of (Err e) = 0

-- what it leaves: the octets before are as they were, those lent are as the writer leaves them
unfoldable pub call : Told → Space → Call → Space
call t z c =
    record {
      whole = take z.written z.whole ++ lent_after (reply_of t c) (lent_in z);
      written = z.written + long_of (answer_in t z c);
    }

-- "An accepted call adds .. the meaning of its Binary input to the list of meanings to be taken off; a refused call adds nothing": the length that
-- the call said, and the meaning
abbrev pub entry_of : Written → Answer Message → List (ℕ × Meaning)
entry_of (Ok n) (accepted k m) = (n, meaning m) ∷ []
entry_of (Ok n) (refused k p) = []
entry_of (Ok n) more = []
entry_of (Err e) x = []

-- what the call c adds
unfoldable pub entry_in : Told → Space → Call → List (ℕ × Meaning)
entry_in t z c = entry_of (answer_in t z c) (read_binary (told_of t c) c.input)

-- ---- a list of calls, one behind the other

-- what the calls leave
unfoldable pub calls : Told → Space → List Call → Space
calls t z [] = z
calls t z (c ∷ cs) = calls t (call t z c) cs

-- what the calls add, in order
unfoldable pub entries_in : Told → Space → List Call → List (ℕ × Meaning)
entries_in t z [] = []
entries_in t z (c ∷ cs) = entry_in t z c ++ entries_in t (call t z c) cs

-- of the calls cs in the lent space o: what they leave
abbrev pub space_of : Told → List ℕ → List Call → Space
space_of t o cs = calls t (fresh o) cs

-- the octets that they wrote
abbrev pub stream_of : Told → List ℕ → List Call → List ℕ
stream_of t o cs = take (space_of t o cs).written (space_of t o cs).whole

-- what they accepted: lengths and meanings
abbrev pub entries_of : Told → List ℕ → List Call → List (ℕ × Meaning)
entries_of t o cs = entries_in t (fresh o) cs

-- the meanings alone
abbrev pub meanings_of : Told → List ℕ → List Call → List Meaning
meanings_of t o cs = map (λ e. e.1) (entries_of t o cs)

-- "so long as no response is written": none of the accepted is a response
abbrev pub NotResponse : ℕ × Meaning → Type 0
NotResponse e = of_response e.1.control ≡ false

-- so it is with all that the calls cs accepted
abbrev pub NoResponse : Told → List ℕ → List Call → Type 0
NoResponse t o cs = Each NotResponse (entries_of t o cs)

-- ---- taking off

-- the request reader, told the scheme, of meanings
abbrev pub read_meaning : Told → List ℕ → Answer Meaning
read_meaning t s = means meaning (read_request t s)

-- ---- the claim

-- demand 3 under one scheme, for all lists of calls
pub record Demand3 (t : Told) : Type 0 where
  -- a call that is lent this part of the space, answers r and leaves o' there, as the writer promises (output/Reply), is the call spoken of here;
  -- so is one that is lent the whole space and the place to write from
  pub called : (z : Space) (c : Call) (o' : List ℕ) (r : Written) → Served (reply_of t c) (lent_in z) o' r
      → (answer_in t z c ≡ r) × (call t z c ≡ record { whole = take z.written z.whole ++ o'; written = z.written + long_of r })
  pub called_at : (z : Space) (c : Call) (o' : List ℕ) (r : Written) → z.written ≤ length z.whole → ServedAt (reply_of t c) z.written z.whole o' r
      → (answer_in t z c ≡ r) × (call t z c ≡ record { whole = o'; written = z.written + long_of r })
  -- an accepted call: the Binary reader accepted its input, and the call adds the length that it said and that input's meaning. Which calls are accepted
  -- is demand 2's `turned` and `room`: they shut out a writer that refuses everything, of which the rest here would say nothing
  pub accepts : (z : Space) (c : Call) (n : ℕ) → answer_in t z c ≡ Ok n
      → (k : ℕ) × (m : Message) × (read_binary (told_of t c) c.input ≡ accepted k m) × (entry_in t z c ≡ (n, meaning m) ∷ []) × (n ≤ length (lent_in z))
  -- a refused call, by whatever number: it adds nothing, and not one octet of the space is altered
  pub refuses : (z : Space) (c : Call) (k p : ℕ) → answer_in t z c ≡ Err (refused_at k p) → (call t z c ≡ z) × (entry_in t z c ≡ [])
  -- whatever octets stand behind what the calls wrote: the request reader first takes off exactly the meanings of the accepted calls, in order, each as
  -- long as its call said; what it then takes off is what it takes off the octets behind
  -- (shuts out: a stream reader that truly reads only the first request; a writer that says 0 and writes nothing; invented lengths)
  pub taken : (o : List ℕ) (cs : List Call) → NoResponse t o cs → (behind : List ℕ)
      → take_off (read_meaning t) (stream_of t o cs ++ behind) ≡ onto (entries_of t o cs) (take_off (read_meaning t) behind)
  -- the same, asked for as many answers as calls were accepted: "what is then left is exactly the bytes behind"
  pub left : (o : List ℕ) (cs : List Call) → NoResponse t o cs → (behind : List ℕ)
      → take_f (read_meaning t) (length (entries_of t o cs)) (stream_of t o cs ++ behind) ≡ onto (entries_of t o cs) (waits behind)
  -- two lists, each in a space of any length, give the same octets exactly when their accepted meanings are the same in number and order
  -- (shuts out: a constant answer, where the lists differ)
  pub same : (o : List ℕ) (cs : List Call) → NoResponse t o cs → (q : List ℕ) (ds : List Call) → NoResponse t q ds
      → (stream_of t o cs ≡ stream_of t q ds) ↔ (meanings_of t o cs ≡ meanings_of t q ds)
  -- after every list of calls the space is as long as it was, what was written lies within it, and all behind is as it was lent
  pub untouched : (o : List ℕ) (cs : List Call)
      → (length (space_of t o cs).whole ≡ length o) × ((space_of t o cs).written ≤ length o)
      × (drop (space_of t o cs).written (space_of t o cs).whole ≡ drop (space_of t o cs).written o)
  -- for every stream s of arbitrary octets, and whatever octets u are put behind it: an answer that does not ask for more stays, ranges included
  pub reading : (s u : List ℕ) → ((reading_of (read_request t s)).outcome ≡ Err Stop.More → ⊥) → reading_of (read_request t (s ++ u)) ≡ reading_of (read_request t s)
  -- taken off message by message, the answers on s alone, save a closing 1, are the first answers with u behind, ranges included
  pub first : (s u : List ℕ) → First (answers (take_off (read_request t) s)) (answers (take_off (read_request t) (s ++ u)))
  -- in meaning, length, refusal and place: taking off s, and then what is left of it with u behind, is taking off the whole
  pub resumes : (s u : List ℕ) → take_off (read_meaning t) (s ++ u) ≡ resume (read_meaning t) (take_off (read_meaning t) s) u
