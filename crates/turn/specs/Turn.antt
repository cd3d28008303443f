-- Turning each form into the other, and writing Binary anew (01, "The two forms and the meaning between them", "How we write"). The order of refusals in
-- writing ("Numbers a call answers with"; 02, items 5 and 7): the reader's here, 14 and 8 at 0 in to_http1 and to_binary, 13 in output/specs/Reply.
use Rattle.std.specs.Prelude.{ℕ, ◌≡◌, cond, List, length, Ok, Err}
use Rattle.octets.specs.Refusals.{more_needed, not_supported, bad_edition}
use Rattle.script.specs.Script.{Answer, accepted, refused, more}
use Rattle.messages.specs.declared.Told.{Told}
use Rattle.messages.specs.Told.{is_edition}
use Rattle.messages.specs.Message.{Message}
use Rattle.messages.specs.Meaning.{Meaning, meaning}
use Rattle.messages.specs.Valid.{is_scheme}
use Rattle.http1_lines.specs.Read.{read_request, read_response}
use Rattle.binary.specs.Read.{read_binary}
use Rattle.binary_writer.specs.Write.{to_binary}
use Rattle.http1_writer.specs.Write.{to_http1}
use Rattle.output.specs.Reply.{Reply, refuses, Served, Written}

-- what is written of a reader's answer on an input of n octets: the reader's refusal goes first
abbrev pub reply_from : ℕ → Answer Message → (Meaning → Reply) → Reply
reply_from n (accepted k m) write = write (meaning m)
reply_from n (refused k p) write = refuses k p
reply_from n more write = refuses more_needed n

-- how many octets of a stream are the message that was turned, by the reader's answer and the writer's: none where it was refused
abbrev pub taken_from : Answer Message → Written → ℕ
taken_from (accepted k m) (Ok n) = k
taken_from (accepted k m) (Err e) = 0
taken_from (refused k p) w = 0
taken_from more w = 0

-- a turning off a stream that was lent o leaves o', answers r and says how many octets it took: x is the reader's answer, y what is to be written
pub record TakenServed (x : Answer Message) (y : Reply) (o o' : List ℕ) (taken : ℕ) (r : Written) : Type 0 where
  pub served : Served y o o' r
  pub takes : taken ≡ taken_from x r

-- ---- the four turnings of an input

-- an HTTP/1.1 request of the scheme told, as Binary
unfoldable pub request_to_binary : Told → List ℕ → Reply
request_to_binary t s = reply_from (length s) (read_request t s) to_binary

-- an HTTP/1.1 response as Binary, told whether it answers a HEAD and whether the connection has closed
unfoldable pub response_to_binary : Told → List ℕ → Reply
response_to_binary t s = reply_from (length s) (read_response t s) to_binary

-- Binary written anew
unfoldable pub binary_to_binary : Told → List ℕ → Reply
binary_to_binary t s = reply_from (length s) (read_binary t s) to_binary

-- Binary as HTTP/1.1 on a connection of the scheme told; told a number that is no edition's it is 17 at 0, before all else, and one that is no scheme's 4 at 0, next
unfoldable pub binary_to_http1 : Told → List ℕ → Reply
binary_to_http1 t s =
    cond (is_edition t.edition)
    (cond (is_scheme t.scheme) (reply_from (length s) (read_binary t s) (to_http1 t)) (refuses not_supported 0))
    (refuses bad_edition 0)
