use native.Mathlib.Omega.{arith}
use Rattle.output.proofs.Serve.{serve-small, serve-done}
use Rattle.salvaging.proofs.Laws.{line-length}
use Rattle.salvaging.proofs.write_line.Goals as goal

pub returns-then-out-line_size : goal.returns-then-out-line_size
returns-then-out-line_size c = rw c.at.ensures (serve-small (omega (arith, c.line_size.ensures, line-length c.args.f, c.if-out-line_size.true)))

pub returns : goal.returns
returns c = serve-done (omega (arith, c.line_size.ensures, c.if-out-line_size.false)) c.put_line.ensures
