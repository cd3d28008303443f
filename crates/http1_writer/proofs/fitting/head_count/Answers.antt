use native.Mathlib.Omega.{arith}
use Rattle.http1_writer.proofs.Fits.{count-response, count-request}
use Rattle.http1_writer.proofs.fitting.head_count.Goals as goal

pub returns-then-r : goal.returns-then-r
returns-then-r c = omega (arith, count-response c.args.r c.args.line c.if-r.true, c.length_lines.ensures.0)

pub returns : goal.returns
returns c = omega (arith, count-request c.args.r c.args.line c.if-r.false, c.length_lines-2.ensures.0)
