use Rattle.std.proofs.Common.{rules}
use Rattle.ranges.proofs.Outcomes.{given-refusal, given-more}
use Rattle.http1_reader.proofs.Values.{request-held}
use Rattle.binary_writer.specs.Write.{to_binary}
use Rattle.turning.proofs.Replies.{taken_more, taken_refused, taken, held-length}
use Rattle.turn.specs.Turn.{request_to_binary}
use Rattle.turning.proofs.to_binary.turn_request.Goals as goal

pub returns-in-Err-More : goal.returns-in-Err-More
unfolding request_to_binary
returns-in-Err-More c = rw c.at.ensures (taken_more _ to_binary _ (given-more c.request_in-o.ensures (search rules)))

pub returns-in-Err-Refused : goal.returns-in-Err-Refused
unfolding request_to_binary
returns-in-Err-Refused c = taken_refused _ to_binary _ _ _ (given-refusal c.request_in-o.ensures c.in-Err-Refused.refused.number c.in-Err-Refused.refused.place (search rules))

pub write_message-w-requires : goal.write_message-w-requires
write_message-w-requires c = let h = request-held c.args.told c.args.input.now _ c.request_in-o.ensures c.in-Ok.is c.requires.0 c.requires.1 c.requires.2 in (h.0, h.1, h.3)

pub returns-in-Ok : goal.returns-in-Ok
unfolding request_to_binary
returns-in-Ok c = let h = request-held c.args.told c.args.input.now _ c.request_in-o.ensures c.in-Ok.is c.requires.0 c.requires.1 c.requires.2 in taken _ to_binary h.0 h.1 h.2 (held-length h.3) (c.write_message-w.ensures.by h.0 h.1 h.3) c.taken_by.ensures
