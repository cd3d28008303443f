use native.Mathlib.Omega.{arith}
use Rattle.ranges.proofs.Outcomes.{given-message}
use Rattle.capi.proofs.RequestEntry.{request-small, request-room, request-entered}
use Rattle.capi.proofs.entries.enter_request.Goals as goal

pub give_message-requires : goal.give_message-requires
give_message-requires c = let g = given-message c.request_in-o.ensures _ c.in-Ok.is in let z = request-room c.args.told c.args.input.now g c.requires.0 c.requires.1 c.requires.2 in (request-small c.args.told c.args.input.now g, z.0, omega arith, omega (arith, z.1), omega (arith, z.2), omega (arith, z.3))

pub returns-in-Ok : goal.returns-in-Ok
returns-in-Ok c = let g = given-message c.request_in-o.ensures _ c.in-Ok.is in request-entered c.args.told c.args.input.now g c.requires.0 c.requires.1 c.requires.2 _ _ _ _ _ c.give_message.ensures
