use native.Mathlib.Omega.{arith}
use mathlib.Core.Path.{sym}
use mathlib.Core.List.{[]}
use Rattle.http1_writer.proofs.Body.{body-plain, body-chunked}
use Rattle.http1_writer.proofs.bodies.body_size.Goals as goal

pub returns-then-count-eq0 : goal.returns-then-count-eq0
returns-then-count-eq0 c = (sym (body-plain [] c.args.trailers.now [] c.args.size c.args.count c.if-count-eq0.true).1, omega (arith, c.requires.0))

pub returns : goal.returns
returns c = (omega (arith, (body-chunked [] c.args.trailers.now [] c.args.size c.args.count c.if-count-eq0.false).1, c.chunk_size.ensures.0, c.section_size.ensures.0), omega (arith, c.chunk_size.ensures.1, c.section_size.ensures.1))
