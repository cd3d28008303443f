-- Demand 2 (00): "Turning a message from either form into the other keeps its meaning: control data, fields in order, content and trailers. The only
-- messages that can't be turned are those that document 01 numbers." A stated length is part of the meaning (02, item 5), and Binary is
-- read in either edition (02, item 7). One statement, `Turns`, of each of
-- the four turnings (01, "The two forms and the meaning between them", "Numbers a call answers with").
use Rattle.std.specs.Prelude.{ℕ, ◌<◌, ◌≤◌, ◌≡◌, Bool, true, false, cond, ◌↔◌, List, [], ◌++◌, length, drop, Ok, Err}
use Rattle.octets.specs.Refusals.{more_needed, not_supported, too_large, no_room, other_scheme, bad_edition, refused_at}
use Rattle.script.specs.Script.{Answer, accepted, refused, more, means}
use Rattle.messages.specs.declared.Told.{Told}
use Rattle.messages.specs.Told.{is_edition, in_edition}
use Rattle.messages.specs.Message.{Message}
use Rattle.messages.specs.Meaning.{Control, request, response, Meaning, meaning}
use Rattle.messages.specs.Valid.{is_scheme, of_response}
use Rattle.http1_lines.specs.Read.{read_request, read_response}
use Rattle.binary.specs.Read.{read_binary}
use Rattle.binary_writer.specs.Write.{binary_of, binary_fits}
use Rattle.http1_writer.specs.Write.{http1_of, http1_fits, on_connection}
use Rattle.output.specs.Reply.{Reply, writes, refuses, written_of, lent_after}
use Rattle.http1_round_trip.specs.RoundTrip.{is_request_of}
use Rattle.turn.specs.Turn.{request_to_binary, response_to_binary, binary_to_binary, binary_to_http1}
use Rattle.demands.specs.Accepting.{Accepting}

-- ---- what a turning is

-- a turning by what it reads and what it writes
pub record Turning : Type 0 where
  -- the number told is a scheme's, or none is told
  pub told : Bool
  -- the reader of the form that is turned
  pub read : List ℕ → Answer Message
  -- the message may go on the connection: a request in HTTP/1.1 is of the scheme told
  pub goes : Meaning → Bool
  -- what is written is within the sizes of its form
  pub fits : Meaning → Bool
  -- what is written
  pub write : Meaning → List ℕ
  -- the reader of the written form, told the same: for a request's control data, or a response's
  pub back : Control → List ℕ → Answer Message
  -- the written form is read off a stream, so that octets may stand behind; a Binary input is one message
  pub streams : Bool
  -- the number told is an edition's, or none is told
  pub edition : Bool

-- each reader takes its own kind of message
abbrev pub http1_reader : Told → Control → List ℕ → Answer Message
http1_reader t (request m s a p) = read_request t
http1_reader t (response hs s) = read_response t

-- into Binary, from any reader: every message goes, if it fits. RFC 9292 is written, whatever edition was read
abbrev pub into_binary : Told → Bool → Bool → (List ℕ → Answer Message) → Turning
into_binary t edition told read =
    record {
      told = told;
      read = read;
      goes = λ m. true;
      fits = binary_fits;
      write = binary_of;
      back = λ c. read_binary (in_edition 0 t);
      streams = false;
      edition = edition;
    }

-- the four turnings: requests as Binary
abbrev pub requests_as_binary : Told → Turning
requests_as_binary t = into_binary t true (is_scheme t.scheme) (read_request t)

-- responses as Binary
abbrev pub responses_as_binary : Told → Turning
responses_as_binary t = into_binary t true true (read_response t)

-- Binary of the edition told, written anew
abbrev pub binary_anew : Told → Turning
binary_anew t = into_binary t (is_edition t.edition) true (read_binary t)

-- Binary of the edition told as HTTP/1.1, on a connection of the scheme told
abbrev pub binary_as_http1 : Told → Turning
binary_as_http1 t =
    record {
      told = is_scheme t.scheme;
      read = read_binary t;
      goes = λ m. on_connection t m.control;
      fits = http1_fits t;
      write = http1_of t;
      back = http1_reader t;
      streams = true;
      edition = is_edition t.edition;
    }

-- ---- what it replies

-- of an accepted message: 14 at 0 where it is not the connection's, 8 at 0 where a written size is passed, else it IS turned
abbrev pub reply_on : Turning → Meaning → Reply
reply_on w m = cond (w.goes m) (cond (w.fits m) (writes (w.write m)) (refuses too_large 0)) (refuses other_scheme 0)

-- of the reader's answer on an input of n octets: the reader's refusal stands, and where it needs more octets it is 1 at the input's length
abbrev pub reply_for : Turning → ℕ → Answer Message → Reply
reply_for w n (accepted k m) = reply_on w (meaning m)
reply_for w n (refused k p) = refuses k p
reply_for w n more = refuses more_needed n

-- any call told a number that is no edition's is 17 at 0, before all else, and one that is no scheme's 4 at 0, next
abbrev pub reply_to : Turning → List ℕ → Reply
reply_to w s = cond w.edition (cond w.told (reply_for w (length s) (w.read s)) (refuses not_supported 0)) (refuses bad_edition 0)

-- ---- what it keeps

-- the octets that may stand behind what is written
abbrev pub behind : Bool → List ℕ → List ℕ
behind true rest = rest
behind false rest = []

-- of the input s the octets b were written: its reader accepted a message, and the reader of the written form takes a message of the same meaning from b,
-- to its last octet, whatever octets stand behind
pub record Kept (w : Turning) (s b : List ℕ) : Type 0 where
  pub long : ℕ
  pub message : Message
  pub read : w.read s ≡ accepted long message
  pub goes : w.goes (meaning message) ≡ true
  pub fits : w.fits (meaning message) ≡ true
  pub written : b ≡ w.write (meaning message)
  pub same : (rest : List ℕ) → means meaning (w.back (meaning message).control (b ++ behind w.streams rest)) ≡ accepted (length b) (meaning message)

-- ---- room

-- what a call that is to reply y answers, and what it leaves in the octets o that it is lent
pub record Lent (y : Reply) : Type 0 where
  -- octets for which there is room are written from the first octet on, their number is answered, and all behind them stays
  pub done : (o b : List ℕ) → y ≡ writes b → length b ≤ length o → (written_of y (length o) ≡ Ok (length b)) × (lent_after y o ≡ b ++ drop (length b) o)
  -- it is 13 at 0 exactly where the octets are more than the room
  pub small : (o b : List ℕ) → y ≡ writes b → (written_of y (length o) ≡ Err (refused_at no_room 0)) ↔ (length o < length b)
  -- a refusal stands whatever the room
  pub stands : (o : List ℕ) (k p : ℕ) → y ≡ refuses k p → written_of y (length o) ≡ Err (refused_at k p)
  -- on any refusal, 13 too, nothing is altered
  pub unaltered : (o : List ℕ) (k p : ℕ) → written_of y (length o) ≡ Err (refused_at k p) → lent_after y o ≡ o

-- ---- the claim

-- a turning replies as it must, keeps meanings and leaves the lent space as it must
pub record Turns (w : Turning) (turn : List ℕ → Reply) : Type 0 where
  -- the reply in every case of the reader's answer. A build that refuses everything, or what 01 does not number, is shut out; so is a constant answer
  pub reply : (s : List ℕ) → turn s ≡ reply_to w s
  -- whatever is accepted, goes on the connection and fits is turned: the same, said of one message
  pub turned : (s : List ℕ) (n : ℕ) (m : Message) → w.edition ≡ true → w.told ≡ true → w.read s ≡ accepted n m → w.goes (meaning m) ≡ true → w.fits (meaning m) ≡ true
      → turn s ≡ writes (w.write (meaning m))
  -- what is written keeps the meaning. A build that says 0 and writes nothing, or something else, is shut out
  pub kept : (s b : List ℕ) → turn s ≡ writes b → Kept w s b
  -- what is answered and left where there is so much room
  pub room : (s : List ℕ) → Lent (turn s)

-- demand 2: `Turns` of each of the four turnings, whatever is told, and that something is accepted
pub record Demand2 : Type 0 where
  -- what a reader of HTTP/1.1 accepts is of its kind, and a request's scheme is the one told
  pub of_requests : (t : Told) (s : List ℕ) (n : ℕ) (m : Message) → read_request t s ≡ accepted n m → is_request_of t (meaning m).control ≡ true
  pub of_responses : (t : Told) (s : List ℕ) (n : ℕ) (m : Message) → read_response t s ≡ accepted n m → of_response (meaning m).control ≡ true
  -- the four turnings
  pub requests : (t : Told) → Turns (requests_as_binary t) (request_to_binary t)
  pub responses : (t : Told) → Turns (responses_as_binary t) (response_to_binary t)
  pub binaries : (t : Told) → Turns (binary_anew t) (binary_to_binary t)
  pub http1 : (t : Told) → Turns (binary_as_http1 t) (binary_to_http1 t)
  -- valid meanings are accepted, and there are some. A build that refuses everything is shut out, its definitions too
  pub accepting : Accepting
