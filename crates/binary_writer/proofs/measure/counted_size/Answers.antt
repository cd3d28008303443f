use native.Mathlib.Omega.{arith}
use Rattle.binary_writer.proofs.Steps.{counted-most}
use Rattle.binary_writer.proofs.measure.counted_size.Goals as goal

pub overflow_add-result : goal.overflow_add-result
overflow_add-result c = omega (arith, c.int_len.ensures, counted-most c.args.n c.requires)

pub returns : goal.returns
returns c = (omega (arith, c.int_len.ensures), omega (arith, c.int_len.ensures, counted-most c.args.n c.requires))
