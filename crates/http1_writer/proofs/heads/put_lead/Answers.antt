use native.Mathlib.Omega.{arith}
use Rattle.output.proofs.Laws.{put_then}
use Rattle.output.proofs.Laws.{put_as}
use Rattle.http1_writer.proofs.Head.{lead-response, lead-request}
use Rattle.http1_writer.proofs.heads.put_lead.Goals as goal

pub put_heads-a-requires : goal.put_heads-a-requires
put_heads-a-requires c = let e = lead-response c.args.s.now c.args.r c.args.fields.now c.args.heads.now c.if-r.true in (c.requires.0.2.heads, omega (arith, e.1, c.requires.1))

pub put_status-requires : goal.put_status-requires
put_status-requires c = let e = lead-response c.args.s.now c.args.r c.args.fields.now c.args.heads.now c.if-r.true in omega (arith, e.1, c.requires.1, c.put_heads-a.ensures.next, c.put_heads-a.auto)

pub returns-then-r : goal.returns-then-r
returns-then-r c = put_as (lead-response c.args.s.now c.args.r c.args.fields.now c.args.heads.now c.if-r.true) (put_then c.put_heads-a.ensures c.put_status.ensures)

pub put_request_line-a-requires : goal.put_request_line-a-requires
put_request_line-a-requires c = let e = lead-request c.args.s.now c.args.r c.args.fields.now c.args.heads.now c.if-r.false in (c.requires.0.2.method, c.requires.0.2.path, omega (arith, e.1, c.requires.1))

pub put_host-requires : goal.put_host-requires
put_host-requires c = let e = lead-request c.args.s.now c.args.r c.args.fields.now c.args.heads.now c.if-r.false in (c.requires.0.2.authority, omega (arith, e.1, c.requires.1, c.put_request_line-a.ensures.next, c.put_request_line-a.auto))

pub returns : goal.returns
returns c = put_as (lead-request c.args.s.now c.args.r c.args.fields.now c.args.heads.now c.if-r.false) (put_then c.put_request_line-a.ensures c.put_host.ensures)
