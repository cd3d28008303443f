use native.Mathlib.Omega.{arith}
use Rattle.numbers.proofs.IntegerLaws.{int-some}
use Rattle.binary_writer.proofs.measure.head_size.Goals as goal

pub overflow_add-result : goal.overflow_add-result
overflow_add-result c = omega (arith, c.int_len.ensures, int-some c.args.status c.requires.2, c.section_size.ensures.1)

pub returns : goal.returns
returns c = (omega (arith, c.int_len.ensures, c.section_size.ensures.0), omega (arith, c.int_len.ensures, int-some c.args.status c.requires.2, c.section_size.ensures.1))
