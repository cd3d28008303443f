use native.Mathlib.Omega.{arith}
use mathlib.Core.List.{[]}
use Rattle.http1_writer.proofs.Head.{lead-response, lead-request}
use Rattle.http1_writer.proofs.heads.lead_size.Goals as goal

pub returns-then-r : goal.returns-then-r
returns-then-r c = let e = lead-response [] c.args.r c.args.fields.now c.args.heads.now c.if-r.true in (omega (arith, e.1, c.heads_size.ensures.0, c.status_size.ensures.0), omega (arith, c.heads_size.ensures.1, c.status_size.ensures.1))

pub returns : goal.returns
returns c = let e = lead-request [] c.args.r c.args.fields.now c.args.heads.now c.if-r.false in (omega (arith, e.1, c.request_size.ensures.0), omega (arith, c.request_size.ensures.1))
