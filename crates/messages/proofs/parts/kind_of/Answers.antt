use mathlib.Core.Logic.{inl, inr}
use Rattle.messages.proofs.NameLengths.{ordinary-length}
use Rattle.messages.proofs.parts.kind_of.Goals as goal

pub returns-in_default : goal.returns-in_default
returns-in_default c = ordinary-length c.args.name.now c.in_default.in_default-own.rest.1 (inl c.in_default.if-n-lt16-own.true)

pub returns-in_default-2 : goal.returns-in_default-2
returns-in_default-2 c = ordinary-length c.args.name.now c.in_default.in_default-own.rest.1 (inr c.in_default.if-n-lt18-own.false)
