use mathlib.Core.Path.{sym, ◌∙◌}
use native.Mathlib.Omega.{arith}
use Rattle.binary_writer.proofs.Steps.{size-response, size-request}
use Rattle.binary_writer.proofs.measure.control_size.Goals as goal

pub returns-then-r : goal.returns-then-r
returns-then-r c = (c.response_size.ensures.0 ∙ sym (size-response c.args.r c.args.fields.now c.args.heads.now c.if-r.true), c.response_size.ensures.1)

pub returns : goal.returns
returns c = (c.request_size.ensures.0 ∙ sym (size-request c.args.r c.args.fields.now c.args.heads.now c.if-r.false), omega (arith, c.request_size.ensures.1))
