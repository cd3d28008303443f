-- "Demand 2 stands for each message, demand 3 for lists of a bundle's requests" (02, item 1).
use Rattle.std.specs.Prelude.{ℕ, ◌≡◌, Bool, true, false, ◌↔◌, List, [], ◌∷◌, ◌++◌, eqb, length}
use Rattle.stream.specs.Taking.{waits, take_f, take_off, onto}
use Rattle.messages.specs.Told.{plain}
use Rattle.messages.specs.declared.Told.{Told}
use Rattle.sound.specs.Placed.{Each}
use Rattle.output.specs.Reply.{writes}
use Rattle.turn.specs.Turn.{binary_to_binary, binary_to_http1}
use Rattle.demands.specs.Demand2.{binary_anew, binary_as_http1, Kept}
use Rattle.demands.specs.Demand3.{Call, stream_of, entries_of, meanings_of, NoResponse, read_meaning}
use Rattle.bundle.specs.Bundle.{word_of, kind_of, Entry, walk}
use Rattle.bundle_laws.specs.Reading.{InForm}

-- ---- demand 2

-- the message of an entry, which answers no HEAD: written anew it is itself, and it keeps its meaning in every turning
pub record MessageKept (e : Entry) : Type 0 where
  pub anew : binary_to_binary (plain 0) e.text ≡ writes e.text
  pub kept : Kept (binary_anew (plain 0)) e.text e.text
  pub http1 : (t : Told) (h : List ℕ) → binary_to_http1 t e.text ≡ writes h → Kept (binary_as_http1 t) e.text h

-- ---- demand 3

-- a call before others, if the test passes
abbrev pub call_if : Bool → Call → List Call → List Call
call_if true c cs = c ∷ cs
call_if false c cs = cs

-- the call on the message of an entry
abbrev pub call_on : Entry → Call
call_on e = record { head = 0; input = e.text; edition = 0 }

-- those on the entries that are requests, in order
unfoldable pub requests_of : List Entry → List Call
requests_of [] = []
requests_of (e ∷ es) = call_if (eqb (kind_of (word_of e.head)) 0) (call_on e) (requests_of es)

-- calls of the HTTP/1.1 writer, told t, in one lent space: on the requests of good entries, so on those of a bundle and of a flock's list, whatever selection
-- of them. What is left out by a refusal is said by `entries_of` (demands/specs/Demand3)
pub record Requests (t : Told) : Type 0 where
  -- no response is among them
  pub none : (es : List Entry) → Each InForm es → (o : List ℕ) → NoResponse t o (requests_of es)
  -- the request reader takes off exactly the accepted calls' meanings, in order, each as long as its call said; then what stands behind
  pub taken : (es : List Entry) → Each InForm es → (o behind : List ℕ)
      → take_off (read_meaning t) (stream_of t o (requests_of es) ++ behind) ≡ onto (entries_of t o (requests_of es)) (take_off (read_meaning t) behind)
  -- what is then left is exactly the octets behind
  pub left : (es : List Entry) → Each InForm es → (o behind : List ℕ)
      → take_f (read_meaning t) (length (entries_of t o (requests_of es))) (stream_of t o (requests_of es) ++ behind)
      ≡ onto (entries_of t o (requests_of es)) (waits behind)
  -- two lists give the same octets exactly when their accepted meanings are the same in number and order
  pub same : (es ds : List Entry) → Each InForm es → Each InForm ds → (o q : List ℕ)
      → (stream_of t o (requests_of es) ≡ stream_of t q (requests_of ds)) ↔ (meanings_of t o (requests_of es) ≡ meanings_of t q (requests_of ds))

-- the claims: of each entry of whatever octets, accepted or not
pub record Demands : Type 0 where
  pub demand2 : (s : List ℕ) → Each MessageKept (walk s).entries
  pub entries : (s : List ℕ) → Each InForm (walk s).entries
  pub demand3 : (t : Told) → Requests t
