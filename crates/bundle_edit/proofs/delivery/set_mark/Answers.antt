use native.Mathlib.Omega.{arith}
use Rattle.bundle_edit.proofs.Sweeping.{first_small}
use Rattle.bundle_edit.proofs.delivery.set_mark.Goals as goal

pub overflow_add-buf : goal.overflow_add-buf
overflow_add-buf c = let h = first_small c.args.buf.now c.args.at c.args.word (omega arith) c.requires.1 c.requires.2 in omega (arith, h)
