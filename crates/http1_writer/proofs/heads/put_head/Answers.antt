use native.Mathlib.Omega.{arith}
use Rattle.output.proofs.Laws.{put_then}
use Rattle.output.proofs.Laws.{put_as}
use Rattle.http1_writer.proofs.Head.{head-parts}
use Rattle.http1_writer.proofs.heads.put_head.Goals as goal

pub put_lead-a-requires : goal.put_lead-a-requires
put_lead-a-requires c = let e = head-parts c.args.s.now c.args.r c.args.fields.now c.args.heads.now c.args.line _ c.fields_before-k.ensures in (c.requires.0, omega (arith, e.1, c.requires.1))

pub put_length-b-requires : goal.put_length-b-requires
put_length-b-requires c = let e = head-parts c.args.s.now c.args.r c.args.fields.now c.args.heads.now c.args.line _ c.fields_before-k.ensures in omega (arith, e.1, c.requires.1, c.put_lead-a.ensures.next, c.put_lead-a.auto)

pub put_section-requires : goal.put_section-requires
put_section-requires c = let e = head-parts c.args.s.now c.args.r c.args.fields.now c.args.heads.now c.args.line _ c.fields_before-k.ensures in (rw c.fields_before-k.ensures c.requires.0.2.headers, omega (arith, e.1, c.requires.1, c.put_lead-a.ensures.next, c.put_lead-a.auto, c.put_length-b.ensures.next, c.put_length-b.auto))

pub returns : goal.returns
returns c = put_as (head-parts c.args.s.now c.args.r c.args.fields.now c.args.heads.now c.args.line _ c.fields_before-k.ensures) (put_then (put_then c.put_lead-a.ensures c.put_length-b.ensures) c.put_section.ensures)
