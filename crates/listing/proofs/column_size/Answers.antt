use mathlib.Core.Path.{ap}
use native.Mathlib.Omega.{arith}
use Rattle.numbers.proofs.DigitLaws.{count_most}
use Prim.Native.Nat.{◌+◌}
use Rattle.listing.proofs.column_size.Goals as goal

pub overflow_add-result : goal.overflow_add-result
overflow_add-result c = omega (arith, c.digit_count.ensures, count_most 10 c.args.n)

pub returns : goal.returns
returns c = (ap (λ k. k + 1) c.digit_count.ensures, omega (arith, c.digit_count.ensures, count_most 10 c.args.n))
