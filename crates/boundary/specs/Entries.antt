-- The C entries under demand 1 (00: "It can be given arbitrary input and lent space .. A refusal names its number and the byte where it arose, and not one
-- byte of the space lent for output is altered"). What a call of an entry answers and leaves is what its promise says (capi/Entries: `Entered`,
-- `EntryServed`, `EntryTaken`, `FieldEntered`); here that is said in the demands' words, of every input and every lent space: `Boundary`.
use Rattle.std.specs.Prelude.{ℕ, ◌+◌, ◌≤◌, ◌≡◌, List, [], ◌∷◌, ◌++◌, length, drop, Some, None}
use Rattle.script.specs.Script.{Answer, accepted}
use Rattle.script.specs.Do.{Piece}
use Rattle.messages.specs.declared.Told.{Told}
use Rattle.messages.specs.Message.{Message}
use Rattle.http1_lines.specs.Read.{read_request, read_response}
use Rattle.http1_sound.specs.Read.{request_numbers, response_numbers}
use Rattle.binary.specs.Read.{read_binary}
use Rattle.binary_sound.specs.Sound.{binary_numbers}
use Rattle.output.specs.Reply.{Reply, writes}
use Rattle.turn.specs.Turn.{request_to_binary, response_to_binary, binary_to_binary, binary_to_http1}
use Rattle.turn.specs.Question.{Question, found_part, request_question, response_question, binary_question}
use Rattle.question.specs.Asking.{asked_of, Answered}
use Rattle.listing.specs.Listing.{listing_of}
use Rattle.demands.specs.Demand1.{RefusalOf, read_number}
use Rattle.capi.specs.Entries.{entry_numbers, Entered, EntryServed, EntryTaken, FieldEntered}

-- OSPIRNAR_RANGES_MOST of include/ospirnar.h: 28 numbers before the lists, 5 · 64 fields of four, 256 chunks of two, 64 trailer fields of four
abbrev pub ranges_most : ℕ
ranges_most = 2076

-- ---- reading entries

-- every call on an input s, lent ranges o, which leaves o', a place and a number as promised; the reader refuses with these numbers
pub record EntryReads (numbers : List ℕ) (read : List ℕ → Answer Message) : Type 0 where
  -- the number is 0, one of the reader's, or 13 where the ranges are too small; the place is one of the input, or the message's length
  pub numbered : (s o o' : List ℕ) (place number : ℕ) → Entered (read s) (length s) o o' place number → RefusalOf (0 ∷ 13 ∷ numbers) s number place
  -- where it is not 0, not one of the lent numbers is altered
  pub unaltered : (s o o' : List ℕ) (place number : ℕ) → Entered (read s) (length s) o o' place number → (number ≡ 0 → ⊥) → o' ≡ o
  -- where it is 0, the reader accepted a message as long as the place says, its numbers stand in front, and all behind them is as it was
  pub accepts : (s o o' : List ℕ) (place number : ℕ) → Entered (read s) (length s) o o' place number → number ≡ 0
      → (m : Message) × (read s ≡ accepted place m) × (o' ≡ entry_numbers place m ++ drop (length (entry_numbers place m)) o)
  -- OSPIRNAR_RANGES_MOST numbers are always enough: then the answer is the reader's
  pub enough : (s o o' : List ℕ) (place number : ℕ) → Entered (read s) (length s) o o' place number → ranges_most ≤ length o → number ≡ read_number (read s)

-- ---- writing entries

-- every call on an input s, lent octets o; what is to be written is refused with these numbers
pub record EntryWrites (numbers : List ℕ) (turn : List ℕ → Reply) : Type 0 where
  -- where the number is not 0 it is 13 or one of these, at a place of the input, and not one lent octet is altered
  pub refuses : (s o o' : List ℕ) (place number : ℕ) → EntryServed (turn s) o o' place number → (number ≡ 0 → ⊥)
      → RefusalOf (13 ∷ numbers) s number place × (o' ≡ o)
  -- where it is 0, the octets that were to be written stand in front, the place is their number, and all behind them is as it was
  pub wrote : (s o o' : List ℕ) (place number : ℕ) → EntryServed (turn s) o o' place number → number ≡ 0
      → (b : List ℕ) × (turn s ≡ writes b) × (place ≡ length b) × (o' ≡ b ++ drop (length b) o)

-- off a stream: the octets taken are the message's where it was written, and none where it was not
pub record EntryTakes (read : List ℕ → Answer Message) (turn : List ℕ → Reply) : Type 0 where
  pub taken : (s o o' : List ℕ) (taken place number : ℕ) → EntryTaken (read s) (turn s) o o' taken place number → number ≡ 0
      → (m : Message) × (read s ≡ accepted taken m)
  pub untaken : (s o o' : List ℕ) (taken place number : ℕ) → EntryTaken (read s) (turn s) o o' taken place number → (number ≡ 0 → ⊥) → taken ≡ 0

-- ---- field entries

-- every call by a name on an input s: 1 and the part that was found, or 0 for the default; the lent number and place by demand 1
pub record EntryAsks (numbers : List ℕ) (ask : List ℕ → List ℕ → Question) : Type 0 where
  pub numbered : (name s : List ℕ) (number place start len answer : ℕ) → FieldEntered (asked_of (ask name s)) number place start len answer
      → RefusalOf (0 ∷ numbers) s number place
  pub found : (name s : List ℕ) (number place start len answer : ℕ) → FieldEntered (asked_of (ask name s)) number place start len answer → answer ≡ 1
      → (w : Piece) × (found_part (ask name s) ≡ Some w) × (start ≡ w.place) × (len ≡ length w.text)
  pub default : (name s : List ℕ) (number place start len answer : ℕ) → FieldEntered (asked_of (ask name s)) number place start len answer → (answer ≡ 1 → ⊥)
      → (found_part (ask name s) ≡ None) × (answer ≡ 0) × (start ≡ 0) × (len ≡ 0)

-- the same in Rust, which is handed a slice: where nothing is found it is the default, else the part of the message, octets and place in memory
pub record SliceAsks (numbers : List ℕ) (ask : List ℕ → List ℕ → Question) : Type 0 where
  pub numbered : (name s default : List ℕ) (message-at default-at : ℕ × ℕ) (octets : List ℕ) (at : ℕ × ℕ) (number place : ℕ)
      → Answered (ask name s) default message-at default-at octets at number place → RefusalOf (0 ∷ numbers) s number place
  pub found : (name s default : List ℕ) (message-at default-at : ℕ × ℕ) (octets : List ℕ) (at : ℕ × ℕ) (number place : ℕ)
      → Answered (ask name s) default message-at default-at octets at number place → (w : Piece) → found_part (ask name s) ≡ Some w
      → (octets ≡ w.text) × (at ≡ (message-at.0, w.place + message-at.1))
  pub default : (name s default : List ℕ) (message-at default-at : ℕ × ℕ) (octets : List ℕ) (at : ℕ × ℕ) (number place : ℕ)
      → Answered (ask name s) default message-at default-at octets at number place → found_part (ask name s) ≡ None → (octets ≡ default) × (at ≡ default-at)

-- ---- the claim

-- of each entry, whatever it is told
pub record Boundary : Type 0 where
  pub requests : (t : Told) → EntryReads (1 ∷ request_numbers) (read_request t)
  pub responses : (t : Told) → EntryReads (1 ∷ response_numbers) (read_response t)
  pub binaries : (t : Told) → EntryReads binary_numbers (read_binary t)
  pub requests_turned : (t : Told) → EntryWrites (1 ∷ request_numbers) (request_to_binary t)
  pub responses_turned : (t : Told) → EntryWrites (1 ∷ response_numbers) (response_to_binary t)
  pub binaries_anew : (t : Told) → EntryWrites binary_numbers (binary_to_binary t)
  pub binaries_turned : (t : Told) → EntryWrites (14 ∷ binary_numbers) (binary_to_http1 t)
  -- a listing is refused for want of room alone
  pub listed : EntryWrites [] (λ s. writes (listing_of s))
  pub requests_taken : (t : Told) → EntryTakes (read_request t) (request_to_binary t)
  pub responses_taken : (t : Told) → EntryTakes (read_response t) (response_to_binary t)
  pub requests_asked : (t : Told) → EntryAsks (1 ∷ request_numbers) (request_question t)
  pub responses_asked : (t : Told) → EntryAsks (1 ∷ response_numbers) (response_question t)
  pub binaries_asked : (t : Told) → EntryAsks binary_numbers (binary_question t)
  pub request_slices : (t : Told) → SliceAsks (1 ∷ request_numbers) (request_question t)
  pub response_slices : (t : Told) → SliceAsks (1 ∷ response_numbers) (response_question t)
  pub binary_slices : (t : Told) → SliceAsks binary_numbers (binary_question t)
