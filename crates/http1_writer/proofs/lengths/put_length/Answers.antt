use native.Mathlib.Omega.{arith}
use Rattle.output.proofs.Laws.{put-none}
use Rattle.output.proofs.Room.{puts, puts_then}
use Rattle.output.proofs.Laws.{put_as}
use Rattle.http1_writer.proofs.Length.{is_none, is-length, is-chunked}
use Rattle.http1_writer.proofs.lengths.put_length.Goals as goal

pub returns-in-Nothing : goal.returns-in-Nothing
returns-in-Nothing c = let e = is_none c.in-Nothing.is in put_as (e.text, e.size) (put-none _ _)

pub returns-in-Length : goal.returns-in-Length
returns-in-Length c = let e = is-length c.in-Length.is in put_as (e.text, e.size) (puts_then (puts_then (puts c.put_text-a.ensures) (puts c.put_decimal-b.ensures)) (puts c.put_text.ensures) (omega (arith, e.size, c.requires)))

pub returns-in-Chunked : goal.returns-in-Chunked
returns-in-Chunked c = let e = is-chunked c.in-Chunked.is in put_as (e.text, e.size) (puts c.put_text-in-Chunked.ensures (omega (arith, e.size, c.requires)))
