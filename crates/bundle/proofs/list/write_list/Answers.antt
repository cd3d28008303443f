use native.Mathlib.Omega.{arith}
use Rattle.output.proofs.Serve.{serve-small, serve-done}
use Rattle.bundle.proofs.list.write_list.Goals as goal

pub returns-then-out-n : goal.returns-then-out-n
returns-then-out-n c = rw c.at.ensures (serve-small (omega (arith, c.list_size-n.ensures, c.if-out-n.true)))

pub returns : goal.returns
returns c = serve-done (omega (arith, c.list_size-n.ensures, c.if-out-n.false)) c.put_list.ensures
