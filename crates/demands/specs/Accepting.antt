-- Demand 2 (00): "What is accepted, and what it means". That something is accepted, so that no build is meant that refuses everything (01, "What the written
-- promises must decide"): accepted messages have valid meanings, every valid meaning that fits is written and read back as itself, and there are such
-- meanings of each kind.
use Rattle.std.specs.Prelude.{ℕ, ◌≡◌, Bool, true, false, List, [], ◌∷◌, ◌++◌, length, None}
use Rattle.octets.specs.Ascii.{ascii}
use Rattle.script.specs.Script.{Answer, accepted, means}
use Rattle.messages.specs.declared.Told.{Told}
use Rattle.messages.specs.Told.{answering, in_edition}
use Rattle.messages.specs.Message.{Message}
use Rattle.messages.specs.Meaning.{request, response, Meaning, meaning}
use Rattle.messages.specs.Valid.{is_scheme, valid, suits}
use Rattle.http1_lines.specs.Read.{read_request, read_response}
use Rattle.binary.specs.Read.{read_binary}
use Rattle.binary_writer.specs.Write.{binary_fits, to_binary}
use Rattle.http1_writer.specs.Write.{to_http1}
use Rattle.http1_round_trip.specs.RoundTrip.{RequestOf, ResponseOf}
use Rattle.output.specs.Reply.{Reply, writes}

-- what a reader told t accepts is a meaning that can be read by one told so
abbrev pub ReadsValid : Told → (List ℕ → Answer Message) → Type 0
ReadsValid t read = (s : List ℕ) (n : ℕ) (m : Message) → read s ≡ accepted n m → (valid (meaning m) ≡ true) × (suits t (meaning m) ≡ true)

-- a valid meaning that a reader told t can take, and that fits a Binary input
abbrev pub BinaryOf : Told → Meaning → Type 0
BinaryOf t m = (valid m ≡ true) × (binary_fits m ≡ true) × (suits t m ≡ true)

-- m is written, and the reader takes a message of the meaning m from what is written, to its last octet, with each of the octets `behind` behind it
pub record WrittenAndRead (write : Meaning → Reply) (read : List ℕ → Answer Message) (behind : List ℕ → List ℕ) (m : Meaning) : Type 0 where
  pub text : List ℕ
  pub written : write m ≡ writes text
  pub back : (rest : List ℕ) → means meaning (read (text ++ behind rest)) ≡ accepted (length text) m

-- any octets; a Binary input is one message, and has none behind it
abbrev pub anything : List ℕ → List ℕ
anything rest = rest

abbrev pub nothing : List ℕ → List ℕ
nothing rest = []

-- ---- one meaning of each kind

-- a request: P5 of 01, of a scheme
abbrev pub post : ℕ → Meaning
post scheme = record { control = request (ascii "POST") scheme (ascii "a") (ascii "/s"); headers = []; content = ascii "abc"; trailers = []; stated = None }

-- a response: Figure 13 of document 001
abbrev pub figure13 : Meaning
figure13 =
    record {
      control = response [] 200;
      headers = [];
      content = ascii "This content contains CRLF.\r\n";
      trailers = record { name = ascii "trailer"; value = ascii "text" } ∷ [];
      stated = None;
    }

-- one that ends at its head, whatever is told
abbrev pub no_content : Meaning
no_content = record { control = response [] 204; headers = []; content = []; trailers = []; stated = None }

-- ---- the claim

-- of each reader and each writer, whatever is told
pub record Accepting : Type 0 where
  -- accepted messages have valid meanings
  pub requests : (t : Told) → ReadsValid t (read_request t)
  pub responses : (t : Told) → ReadsValid t (read_response t)
  pub binaries : (t : Told) → ReadsValid t (read_binary t)
  -- every valid meaning that fits is written and read back as itself, in Binary as RFC 9292 has it: a reader that refuses something of it is shut out, and so is a writer
  pub binaries_back : (t : Told) (m : Meaning) → BinaryOf t m → WrittenAndRead to_binary (read_binary (in_edition 0 t)) nothing m
  pub requests_back : (t : Told) (m : Meaning) → RequestOf t m → WrittenAndRead (to_http1 t) (read_request t) anything m
  pub responses_back : (t : Told) (m : Meaning) → ResponseOf t m → WrittenAndRead (to_http1 t) (read_response t) anything m
  -- there are such meanings: sizes that nothing fits are shut out, and so are rules that nothing obeys
  pub a_request : (t : Told) → is_scheme t.scheme ≡ true → RequestOf t (post t.scheme) × BinaryOf t (post t.scheme)
  pub a_response : (t : Told) → ResponseOf (answering 0 t) figure13 × BinaryOf (answering 0 t) figure13
  pub an_empty_response : (t : Told) → ResponseOf t no_content × BinaryOf t no_content
