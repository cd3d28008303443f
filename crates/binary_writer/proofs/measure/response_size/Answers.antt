use native.Mathlib.Omega.{arith}
use Rattle.numbers.proofs.IntegerLaws.{int-some}
use Rattle.binary_writer.proofs.measure.response_size.Goals as goal

pub overflow_add-result-2 : goal.overflow_add-result-2
overflow_add-result-2 c = omega (arith, c.heads_size.ensures.1, c.int_len.ensures, int-some c.args.status (omega (arith, c.well_formed)))

pub returns : goal.returns
returns c = (omega (arith, c.heads_size.ensures.0, c.int_len.ensures), omega (arith, c.heads_size.ensures.1, c.int_len.ensures, int-some c.args.status (omega (arith, c.well_formed))))
