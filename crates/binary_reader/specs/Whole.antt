-- What the code that reads a message behind its heads promises (binary/specs/Read; 01, "Binary HTTP as we take it").
use Rattle.std.specs.Prelude.{ℕ, ◌≡◌, Bool, List}
use Rattle.output.specs.Splice.{splice}
use Rattle.ranges.specs.Ranges.{Stores}
use Rattle.messages.specs.Message.{FieldRead, InformationalRead, is_response, Message}
use Rattle.messages.specs.Names.{kept_trailers}
use Rattle.messages.specs.Answers.{fields_numbers, chunks_numbers, informational_in, record_of}
use Rattle.messages.specs.Answers.{Outcome}
use Rattle.std.specs.Prelude.{Ok, Err}
use Rattle.messages.specs.declared.Stop.{Stop}
use Rattle.octets.specs.Refusals.{refused_at}
use Rattle.binary.specs.Reader.{Got, got, no}

-- a message behind its heads, of which informational heads and the final head's lines are known: its outcome, and the ranges of its chunks and kept trailers
abbrev pub MessageSays : Bool → List InformationalRead → List FieldRead → Got Message → List ℕ → List ℕ → List ℕ → List ℕ → Outcome → Type 0
MessageSays response is lines (got m e l) cs cs' ts ts' r =
    (r ≡ Ok (record_of e.at m))
    × (cs' ≡ splice cs 0 (chunks_numbers m.chunks))
    × Stores ts 0 (fields_numbers (kept_trailers m.trailers)) ts'
    × (m.lines ≡ lines)
    × (is_response m.start ≡ response)
    × (informational_in m.start ≡ is)
MessageSays response is lines (no n p) cs cs' ts ts' r = r ≡ Err (Stop.Refused (refused_at n p))

-- the promise of a message behind its heads
pub record MessageIs (response : Bool) (is : List InformationalRead) (lines : List FieldRead) (x : Got Message) (cs cs' ts ts' : List ℕ) (r : Outcome)
    : Type 0 where
  pub says : MessageSays response is lines x cs cs' ts ts' r
