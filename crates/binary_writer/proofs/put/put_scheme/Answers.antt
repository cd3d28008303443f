use native.Mathlib.Omega.{arith}
use Rattle.output.proofs.Room.{puts}
use Rattle.binary_writer.proofs.Steps.{scheme-http, scheme-https, put-http, put-https}
use Rattle.binary_writer.proofs.put.put_scheme.Goals as goal

pub returns-then-scheme-eq0 : goal.returns-then-scheme-eq0
returns-then-scheme-eq0 c = put-http c.if-scheme-eq0.true (puts c.put_text.ensures (omega (arith, c.requires, scheme-http c.args.scheme c.if-scheme-eq0.true)))

pub returns : goal.returns
returns c = put-https c.if-scheme-eq0.false (puts c.put_text-2.ensures (omega (arith, c.requires, scheme-https c.args.scheme c.if-scheme-eq0.false)))
