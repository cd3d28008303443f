use native.Mathlib.Omega.{arith}
use Rattle.ranges.proofs.Outcomes.{given-message, response-outcomed}
use Rattle.capi.proofs.MessageEntry.{message-small, message-room, message-entered, binary-ok}
use Rattle.capi.proofs.entries.enter_binary.Goals as goal

pub all_fields-fields-requires : goal.all_fields-fields-requires
all_fields-fields-requires c = let g = given-message (response-outcomed c.binary_in-o.ensures) _ c.in-Ok.is in (omega (arith, c.requires.1), (message-small c.args.input.now g c.binary_in-o.ensures c.requires.4 (binary-ok c.args.told c.args.input.now g)).headers)

pub give_message-requires : goal.give_message-requires
give_message-requires c = let g = given-message (response-outcomed c.binary_in-o.ensures) _ c.in-Ok.is in let z = message-room c.args.input.now g c.binary_in-o.ensures c.requires.4 (binary-ok c.args.told c.args.input.now g) _ c.all_fields-fields.ensures c.requires.0 c.requires.2 c.requires.3 in (message-small c.args.input.now g c.binary_in-o.ensures c.requires.4 (binary-ok c.args.told c.args.input.now g), z.0, omega (arith, c.requires.1), omega (arith, z.1), omega (arith, z.2), omega (arith, z.3))

pub returns-in-Ok : goal.returns-in-Ok
returns-in-Ok c = let g = given-message (response-outcomed c.binary_in-o.ensures) _ c.in-Ok.is in message-entered c.args.input.now g c.binary_in-o.ensures c.requires.4 (binary-ok c.args.told c.args.input.now g) _ c.all_fields-fields.ensures c.requires.0 c.requires.2 c.requires.3 _ _ _ _ _ c.give_message.ensures
