use Rattle.std.proofs.Common.{refl, arith}
use Rattle.output.proofs.Copies.{splice-part}
use Rattle.bundle_capi.proofs.copy_numbers.Goals as goal

pub returns : goal.returns
returns c = splice-part c.args.out.now c.args.src.now 0 0 c.args.n refl c.copy_from_slice.ensures.after (omega (arith, c.requires.n_in_bounds_2)) (omega (arith, c.requires.n_in_bounds))
