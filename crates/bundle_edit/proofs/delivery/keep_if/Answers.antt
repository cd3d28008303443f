use Rattle.bundle_edit.proofs.Sweeping.{keep-here}
use Rattle.bundle_edit.proofs.delivery.keep_if.Goals as goal

pub returns-then-end-at : goal.returns-then-end-at
returns-then-end-at c = keep-here c.args.buf.now c.args.end c.args.at c.args.n c.if-delivered.false c.if-end-at.true c.requires.1
