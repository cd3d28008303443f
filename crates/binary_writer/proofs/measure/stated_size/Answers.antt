use native.Mathlib.Omega.{arith}
use mathlib.Core.Path.{ap}
use Prim.Native.Nat.{ℕ}
use Rattle.numbers.proofs.DigitLaws.{count_most}
use Rattle.binary_writer.specs.Sizes.{counted_size}
use Rattle.binary_writer.proofs.Lengths.{is-of}
use Rattle.binary_writer.proofs.measure.stated_size.Goals as goal

pub counted_size-requires : goal.counted_size-requires
counted_size-requires c = omega (arith, c.digit_count.ensures, count_most 10 c.in-Some.n)

pub overflow_add-result : goal.overflow_add-result
overflow_add-result c = omega (arith, c.digit_count.ensures, count_most 10 c.in-Some.n, c.counted_size.ensures.1)

pub returns-in-Some : goal.returns-in-Some
returns-in-Some c = (omega (arith, (is-of c.in-Some.is).size, c.counted_size.ensures.0, ap (λ (n : ℕ). counted_size n) c.digit_count.ensures), omega (arith, c.digit_count.ensures, count_most 10 c.in-Some.n, c.counted_size.ensures.1))
