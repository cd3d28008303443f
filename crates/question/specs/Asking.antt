-- What the code of the field question answers with, in terms of its definition (turn, Question).
use Rattle.std.specs.Prelude.{ℕ, ◌+◌, ◌*◌, ◌≤◌, ◌≡◌, List, length, get_or, Result, Ok, Err, Option, None, Some}
use Rattle.octets.specs.Refusals.{more_needed, refused_at}
use Rattle.octets.specs.declared.Refused.{Refused}
use Rattle.octets.specs.Limits.{informational_most}
use Rattle.script.specs.Do.{Piece}
use Rattle.output.specs.Splice.{part}
use Rattle.messages.specs.declared.Span.{Span}
use Rattle.messages.specs.declared.Record.{Record}
use Rattle.messages.specs.Answers.{Outcome}
use Rattle.messages.specs.declared.Stop.{Stop}
use Rattle.ranges.specs.Entries.{fields_in, fields_before, FieldsWithin}
use Rattle.turn.specs.Question.{first_of, Question, found_part, lent_number, lent_place, value_or}

-- an answer by value: the found part by its place and length, or nothing for the whole default; or the message's refusal
abbrev pub Asked : Type 0
Asked = Result (Option Span) Refused

-- the found part by its place and length
abbrev pub found_of : Option Piece → Option Span
found_of None = None
found_of (Some w) = Some (record { start = w.place; len = length w.text })

-- the answer by value
unfoldable pub asked_of : Question → Asked
asked_of (Ok f) = Ok (found_of f)
asked_of (Err e) = Err e

-- ---- by the numbers that a reader left

-- the value of the entry k
abbrev pub value_part : List ℕ → ℕ → Span
value_part ranges k = record { start = get_or ranges (k * 4 + 2) 0; len = get_or ranges (k * 4 + 3) 0 }

-- the first value of the name among n fields from the entry k on
unfoldable pub found_in : List ℕ → List ℕ → List ℕ → ℕ → ℕ → Option Span
found_in name s ranges k n = found_of (first_of name (fields_in s ranges k n))

-- the header fields of an outcome's message lie within the source and the lent ranges: hs of header fields, ns of informational heads
pub record HeadersWithin (s : List ℕ) (r : Record) (hs ns : List ℕ) : Type 0 where
  pub heads : r.informational * 2 ≤ length ns
  pub few : r.informational ≤ informational_most
  pub fields : FieldsWithin (length s) hs (fields_before ns r.informational) r.headers

pub record OutcomeWithin (s : List ℕ) (o : Outcome) (hs ns : List ℕ) : Type 0 where
  pub message : (r : Record) → o ≡ Ok r → HeadersWithin s r hs ns

-- the answer from a reader's outcome
abbrev pub asked_from : List ℕ → List ℕ → Outcome → List ℕ → List ℕ → Asked
asked_from name s (Ok r) hs ns = Ok (found_in name s hs (fields_before ns r.informational) r.headers)
asked_from name s (Err (Stop.Refused e)) hs ns = Err e
asked_from name s (Err Stop.More) hs ns = Err (refused_at more_needed (length s))

-- ---- the answer as a slice

-- the octets of what was found in s, or the default
abbrev pub octets_or : List ℕ → List ℕ → Option Span → List ℕ
octets_or s default (Some w) = part s w.start w.len
octets_or s default None = default

-- where the slice stands in memory, as block and offset: where the part of the message does, or the default
abbrev pub points_to : Option Span → ℕ × ℕ → ℕ × ℕ → ℕ × ℕ
points_to (Some w) message default = (message.0, w.start + message.1)
points_to None message default = default

-- a part that was found lies within s
pub record FoundWithin (s : List ℕ) (f : Option Span) : Type 0 where
  pub part : (w : Span) → f ≡ Some w → w.start + w.len ≤ length s

-- a call's answer to the question q, where the message and the default stand in memory as told: the octets of the slice, where it stands, number and place
pub record Answered (q : Question) (default : List ℕ) (message-at default-at : ℕ × ℕ) (octets : List ℕ) (at : ℕ × ℕ) (n p : ℕ) : Type 0 where
  pub value : octets ≡ value_or default (found_part q)
  pub slice : at ≡ points_to (found_of (found_part q)) message-at default-at
  pub number : n ≡ lent_number q
  pub place : p ≡ lent_place q
