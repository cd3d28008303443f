-- What is written as HTTP/1.1 is read back (00, demand 2: "Turning a message from either form into the other keeps its meaning: control data,
-- fields in order, content and trailers"; 01, "How we write"; 02, item 5: "Demand 2 includes it"). It serves demand 3 too, call by call: "the request reader,
-- told the same scheme, first takes off exactly the meanings of the accepted calls, in order. Each is as long as its call said, and what is then left is exactly
-- the bytes behind."
use Rattle.std.specs.Prelude.{◌≡◌, Bool, true, false, List, ◌++◌, ℕ, eqb, length}
use Rattle.script.specs.Script.{Answer, accepted, means}
use Rattle.messages.specs.Told.{answering, closing, in_edition}
use Rattle.messages.specs.declared.Told.{Told}
use Rattle.messages.specs.Message.{Message}
use Rattle.messages.specs.Meaning.{Control, request, response, Meaning, meaning}
use Rattle.messages.specs.Valid.{of_response, valid, suits}
use Rattle.http1_lines.specs.Read.{read_request, read_response}
use Rattle.http1_writer.specs.Write.{http1_of, http1_fits, to_http1}

-- ---- what the claims speak of

-- a request of the scheme that the reader is told
abbrev pub is_request_of : Told → Control → Bool
is_request_of t (request m s a p) = eqb s t.scheme
is_request_of t (response hs s) = false

-- a meaning that can be read, written within the sizes of heads, lines and trailers: a request of the scheme
abbrev pub RequestOf : Told → Meaning → Type 0
RequestOf t m = (valid m ≡ true) × (http1_fits t m ≡ true) × (is_request_of t m.control ≡ true)

-- the same of a response that a reader told so can take
abbrev pub ResponseOf : Told → Meaning → Type 0
ResponseOf t m = (valid m ≡ true) × (http1_fits t m ≡ true) × (of_response m.control ≡ true) × (suits t m ≡ true)

-- ---- the claims

-- from what is written of m the reader, told what the writer was told, takes one message, to the last octet written, whatever octets stand behind; and that
-- message means m
pub record ReadsBack (t : Told) (read : Told → List ℕ → Answer Message) (m : Meaning) : Type 0 where
  pub message : Message
  pub taken : (rest : List ℕ) → read t (http1_of t m ++ rest) ≡ accepted (length (http1_of t m)) message
  pub same : meaning message ≡ m

-- every request is read back, by the reader that is told its scheme
abbrev pub RequestsBack : Type 0
RequestsBack = (t : Told) (m : Meaning) → RequestOf t m → ReadsBack t read_request m

-- every response is read back, a HEAD's by the reader that is told so; it says itself where it ends, so whether the connection has closed does not matter (02,
-- item 10: "Written back, it has a length")
abbrev pub ResponsesBack : Type 0
ResponsesBack = (t : Told) (m : Meaning) → ResponseOf t m → ReadsBack t read_response m

-- ---- what follows from them

-- the same in one equation, of meanings
abbrev pub RequestMeanings : Type 0
RequestMeanings = (t : Told) (m : Meaning) → RequestOf t m → (rest : List ℕ)
    → means meaning (read_request t (http1_of t m ++ rest)) ≡ accepted (length (http1_of t m)) m

-- the same of responses
abbrev pub ResponseMeanings : Type 0
ResponseMeanings = (t : Told) (m : Meaning) → ResponseOf t m → (rest : List ℕ)
    → means meaning (read_response t (http1_of t m ++ rest)) ≡ accepted (length (http1_of t m)) m

-- equal octets are equal meanings with equal octets behind them (00, demand 3: "two such lists give the same bytes exactly when their accepted
-- meanings are the same", for one call)
abbrev pub RequestsApart : Type 0
RequestsApart = (t : Told) (l m : Meaning) → RequestOf t l → RequestOf t m → (r q : List ℕ) → http1_of t l ++ r ≡ http1_of t m ++ q → (l ≡ m) × (r ≡ q)

-- the same of responses
abbrev pub ResponsesApart : Type 0
ResponsesApart = (t : Told) (l m : Meaning) → ResponseOf t l → ResponseOf t m → (r q : List ℕ) → http1_of t l ++ r ≡ http1_of t m ++ q → (l ≡ m) × (r ≡ q)

-- ---- what a writer does not look at

-- that a message answers a HEAD means nothing of a request: it is written alike (02, item 5)
abbrev pub RequestsHeadUnused : Type 0
RequestsHeadUnused = (t : Told) (h : ℕ) (m : Meaning) → of_response m.control ≡ false → to_http1 (answering h t) m ≡ to_http1 t m

-- whether the connection has closed means nothing to the writer (02, item 10)
abbrev pub ClosedUnused : Type 0
ClosedUnused = (t : Told) (c : ℕ) (m : Meaning) → to_http1 (closing c t) m ≡ to_http1 t m

-- nor does the edition that a Binary message was read in (02, item 7)
abbrev pub EditionUnused : Type 0
EditionUnused = (t : Told) (e : ℕ) (m : Meaning) → to_http1 (in_edition e t) m ≡ to_http1 t m
