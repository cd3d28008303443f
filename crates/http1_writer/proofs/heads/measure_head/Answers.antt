use native.Mathlib.Omega.{arith}
use mathlib.Core.List.{[]}
use Rattle.http1_writer.proofs.Head.{head-parts}
use Rattle.http1_writer.proofs.heads.measure_head.Goals as goal

pub returns : goal.returns
returns c = let e = head-parts [] c.args.r c.args.fields.now c.args.heads.now c.args.line _ c.fields_before-k.ensures in (omega (arith, e.1, c.lead_size.ensures.0, c.length_size.ensures.0, c.section_size.ensures.0), omega (arith, c.lead_size.ensures.1, c.length_size.ensures.1, c.section_size.ensures.1))
