-- What the code of the turnings promises behind a judgement: in terms of `binary_to_http1`, once edition and scheme told are judged, and of `taken_from`, once the message
-- is accepted (turn/specs/Turn; 01, "How we write").
use Rattle.std.specs.Prelude.{List, ℕ, length, Ok, Err}
use Rattle.messages.specs.declared.Told.{Told}
use Rattle.binary.specs.Read.{read_binary}
use Rattle.http1_writer.specs.Write.{to_http1}
use Rattle.output.specs.Reply.{Reply, Written}
use Rattle.turn.specs.Turn.{reply_from}

-- a Binary input as HTTP/1.1, behind the judgement of the edition and the scheme that are told
unfoldable pub read_to_http1 : Told → List ℕ → Reply
read_to_http1 t s = reply_from (length s) (read_binary t s) (to_http1 t)

-- how many octets were taken of a message of n octets that was accepted, where the writer answered so
abbrev pub taken_by : Written → ℕ → ℕ
taken_by (Ok k) n = n
taken_by (Err e) n = 0
