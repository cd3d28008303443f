use native.Mathlib.Omega.{arith}
use Rattle.numbers.proofs.DigitLaws.{count_most}
use Rattle.salvaging.proofs.line_size.Goals as goal

pub overflow_add-kept : goal.overflow_add-kept
overflow_add-kept c = omega (arith, c.digit_count.ensures, c.digit_count-2.ensures, count_most 10 c.args.f.entries, count_most 10 c.args.f.kept)

pub overflow_add-rest : goal.overflow_add-rest
overflow_add-rest c = omega (arith, c.digit_count-3.ensures, c.digit_count-4.ensures, count_most 10 c.args.f.left, count_most 10 c.args.f.stop)

pub overflow_add-result : goal.overflow_add-result
overflow_add-result c = omega (arith, c.digit_count.ensures, c.digit_count-2.ensures, count_most 10 c.args.f.entries, count_most 10 c.args.f.kept)

pub overflow_add-result-2 : goal.overflow_add-result-2
overflow_add-result-2 c = omega (arith, c.digit_count.ensures, c.digit_count-2.ensures, c.digit_count-3.ensures, c.digit_count-4.ensures, count_most 10 c.args.f.entries, count_most 10 c.args.f.kept, count_most 10 c.args.f.left, count_most 10 c.args.f.stop)
