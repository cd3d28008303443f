use native.Mathlib.Omega.{arith}
use Rattle.numbers.proofs.DigitLaws.{count_most}
use Rattle.http1_writer.proofs.heads.status_size.Goals as goal

pub overflow_add-result : goal.overflow_add-result
overflow_add-result c = omega (arith, c.digit_count.ensures, count_most 10 c.args.status)

pub returns : goal.returns
returns c = (omega (arith, c.digit_count.ensures), omega (arith, c.digit_count.ensures, count_most 10 c.args.status))
