use Rattle.bundle_edit.proofs.Appends.{within-served, within-past}
use Rattle.bundle_edit.proofs.append_within.Goals as goal

pub returns-then-used-buf : goal.returns-then-used-buf
returns-then-used-buf c = within-served c.args.buf.now c.args.used c.args.flock c.args.message.now c.if-used-buf.true c.append_entry.ensures

pub returns : goal.returns
returns c = rw c.at.ensures (within-past c.args.buf.now c.args.used c.args.flock c.args.message.now c.if-used-buf.false)
