use native.Mathlib.Omega.{arith}
use mathlib.Core.Path.{sym}
use Rattle.numbers.proofs.DigitLaws.{count_most}
use Rattle.http1_writer.proofs.Length.{is_none, is-length, is-chunked}
use Rattle.http1_writer.proofs.lengths.length_size.Goals as goal

pub returns-in-Nothing : goal.returns-in-Nothing
returns-in-Nothing c = (sym (is_none c.in-Nothing.is).size, omega arith)

pub overflow_add-result : goal.overflow_add-result
overflow_add-result c = omega (arith, c.digit_count.ensures, count_most 10 c.in-Length.n)

pub overflow_add-result-in-Length : goal.overflow_add-result-in-Length
overflow_add-result-in-Length c = omega (arith, c.digit_count.ensures, count_most 10 c.in-Length.n)

pub returns-in-Length : goal.returns-in-Length
returns-in-Length c = (omega (arith, (is-length c.in-Length.is).size, c.digit_count.ensures), omega (arith, c.digit_count.ensures, count_most 10 c.in-Length.n))

pub returns-in-Chunked : goal.returns-in-Chunked
returns-in-Chunked c = (sym (is-chunked c.in-Chunked.is).size, omega arith)
