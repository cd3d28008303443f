use native.Mathlib.Omega.{arith}
use Rattle.http1_writer.proofs.Serving.{message-small, message-done}
use Rattle.http1_writer.proofs.put_message.Goals as goal

pub returns-then-out-size : goal.returns-then-out-size
returns-then-out-size c = rw c.at.ensures (message-small c.requires.0 c.args.line (omega (arith, c.if-out-size.true, c.requires.1, c.body_size.ensures.0)))

pub returns : goal.returns
returns c = message-done c.requires.0 c.args.line (omega (arith, c.if-out-size.false, c.requires.1, c.body_size.ensures.0)) c.put_head-a.ensures c.put_body-b.ensures
