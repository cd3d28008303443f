use Rattle.std.proofs.Common.{arith}
use Rattle.output.proofs.Copies.{splice-within}
use Rattle.bundle_edit.proofs.delivery.move_forward.Goals as goal

pub returns : goal.returns
returns c = splice-within c.args.buf.now c.args.to c.args.from c.args.n (omega arith) c.copy_within.ensures.after c.requires.1 (omega (arith, c.requires))
