use native.Mathlib.Omega.{arith}
use Rattle.binary_writer.proofs.Steps.{size-response, size-request, control-response, control-request}
use Rattle.binary_writer.proofs.put.put_control_data.Goals as goal

pub put_response-requires : goal.put_response-requires
put_response-requires c = (c.requires.0.2.heads, omega (arith, c.requires.1, size-response c.args.r c.args.fields.now c.args.heads.now c.if-r.true))

pub returns-then-r : goal.returns-then-r
returns-then-r c = control-response c.args.s.now c.args.r c.args.fields.now c.args.heads.now c.if-r.true c.put_response.ensures

pub put_request-requires : goal.put_request-requires
put_request-requires c = (c.requires.0.2.method, c.requires.0.2.authority, c.requires.0.2.path, omega (arith, c.requires.1, size-request c.args.r c.args.fields.now c.args.heads.now c.if-r.false))

pub returns : goal.returns
returns c = control-request c.args.s.now c.args.r c.args.fields.now c.args.heads.now c.if-r.false c.put_request.ensures
