use native.Mathlib.Omega.{arith}
use Rattle.bundle_capi.proofs.Entering.{few, numbers-size, read-stops, read_small, read_done}
use Rattle.bundle_capi.proofs.ospirnar_read_bundle.Goals as goal

pub overflow_mul-n : goal.overflow_mul-n
overflow_mul-n c = omega (arith, few c.args.input.now c.read_bundle-b.ensures)

pub returns-then-b-ne0 : goal.returns-then-b-ne0
returns-then-b-ne0 c = read-stops c.args.input.now c.read_bundle-b.ensures _ c.if-b-ne0.true

pub returns-then-entries-n : goal.returns-then-entries-n
returns-then-entries-n c = read_small c.args.input.now c.read_bundle-b.ensures c.if-b-ne0.false _ c.if-entries-n.true

pub copy_numbers-requires-clause-n_in_bounds_2 : goal.copy_numbers-requires-clause-n_in_bounds_2
copy_numbers-requires-clause-n_in_bounds_2 c = omega (arith, few c.args.input.now c.read_bundle-b.ensures, numbers-size c.args.input.now c.read_bundle-b.ensures)

pub returns : goal.returns
returns c = read_done c.args.input.now c.read_bundle-b.ensures c.if-b-ne0.false c.if-entries-n.false c.copy_numbers.ensures
