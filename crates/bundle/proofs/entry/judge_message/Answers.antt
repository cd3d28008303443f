use Rattle.std.proofs.Common.{rules}
use Rattle.bundle.proofs.Messages.{told-nothing, message-held, verdict-more, verdict-refused, verdict-other, verdict-good, verdict-formless}
use Rattle.bundle.proofs.entry.judge_message.Goals as goal

pub returns-in-Err-More : goal.returns-in-Err-More
returns-in-Err-More c = verdict-more c.args.kind c.args.s.now (told-nothing c.args.s.now c.plain.ensures c.binary_in-o.ensures) (search rules)

pub returns-in-Err-Refused : goal.returns-in-Err-Refused
returns-in-Err-Refused c = verdict-refused c.args.kind c.args.s.now (told-nothing c.args.s.now c.plain.ensures c.binary_in-o.ensures) c.in-Err-Refused.e.number c.in-Err-Refused.e.place (search rules)

pub in_form-requires-clause-by_index : goal.in_form-requires-clause-by_index
in_form-requires-clause-by_index c = let h = message-held c.args.s.now (told-nothing c.args.s.now c.plain.ensures c.binary_in-o.ensures) c.in-Ok.is c.requires.0 c.requires.1 c.requires.2 c.requires.3 in (h.0, h.1, h.3)

pub returns-then-in_form : goal.returns-then-in_form
returns-then-in_form c = let h = message-held c.args.s.now (told-nothing c.args.s.now c.plain.ensures c.binary_in-o.ensures) c.in-Ok.is c.requires.0 c.requires.1 c.requires.2 c.requires.3 in verdict-good c.args.kind c.args.s.now h c.is_kind.ensures c.if-is_kind.true (c.in_form.ensures.by h.0 h.1 h.3) c.if-in_form.true

pub returns-else-in_form : goal.returns-else-in_form
returns-else-in_form c = let h = message-held c.args.s.now (told-nothing c.args.s.now c.plain.ensures c.binary_in-o.ensures) c.in-Ok.is c.requires.0 c.requires.1 c.requires.2 c.requires.3 in verdict-formless c.args.kind c.args.s.now h c.is_kind.ensures c.if-is_kind.true (c.in_form.ensures.by h.0 h.1 h.3) c.if-in_form.false

pub returns-else-is_kind : goal.returns-else-is_kind
returns-else-is_kind c = let h = message-held c.args.s.now (told-nothing c.args.s.now c.plain.ensures c.binary_in-o.ensures) c.in-Ok.is c.requires.0 c.requires.1 c.requires.2 c.requires.3 in verdict-other c.args.kind c.args.s.now h c.is_kind.ensures c.if-is_kind.false
