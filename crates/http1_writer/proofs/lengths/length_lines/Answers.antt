use native.Mathlib.Omega.{arith}
use mathlib.Core.Path.{sym}
use Rattle.http1_writer.proofs.Length.{is_none, is-length, is-chunked}
use Rattle.http1_writer.proofs.lengths.length_lines.Goals as goal

pub returns-in-Nothing : goal.returns-in-Nothing
returns-in-Nothing c = (sym (is_none c.in-Nothing.is).count, omega arith)

pub returns-in-Length : goal.returns-in-Length
returns-in-Length c = (sym (is-length c.in-Length.is).count, omega arith)

pub returns-in-Chunked : goal.returns-in-Chunked
returns-in-Chunked c = (sym (is-chunked c.in-Chunked.is).count, omega arith)
