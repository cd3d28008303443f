use Rattle.std.proofs.Common.{rules}
use Rattle.ranges.proofs.Outcomes.{given-refusal, given-more, response-outcomed}
use Rattle.binary_writer.specs.Write.{to_binary}
use Rattle.turn.specs.Turn.{binary_to_binary}
use Rattle.turning.proofs.Replies.{turned_more, turned-refused, turned, binary-held}
use Rattle.turning.proofs.from_binary.turn_anew.Goals as goal

pub returns-in-Err-More : goal.returns-in-Err-More
unfolding binary_to_binary
returns-in-Err-More c = rw c.at.ensures (turned_more _ to_binary _ (given-more (response-outcomed c.binary_in-o.ensures) (search rules)))

pub returns-in-Err-Refused : goal.returns-in-Err-Refused
unfolding binary_to_binary
returns-in-Err-Refused c = turned-refused _ to_binary _ _ _ (given-refusal (response-outcomed c.binary_in-o.ensures) c.in-Err-Refused.refused.number c.in-Err-Refused.refused.place (search rules))

pub write_message-requires : goal.write_message-requires
write_message-requires c = let h = binary-held c.args.told c.args.input.now c.binary_in-o.ensures c.in-Ok.is c.requires.0 c.requires.1 c.requires.2 c.requires.3 in (h.0, h.1, h.3)

pub returns-in-Ok : goal.returns-in-Ok
unfolding binary_to_binary
returns-in-Ok c = let h = binary-held c.args.told c.args.input.now c.binary_in-o.ensures c.in-Ok.is c.requires.0 c.requires.1 c.requires.2 c.requires.3 in turned _ to_binary h.0 h.1 h.2 (c.write_message.ensures.by h.0 h.1 h.3)
