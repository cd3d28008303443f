use mathlib.Core.Path.{refl}
use Rattle.steps.proofs.Turns.{answer-as, answer-more}
use Rattle.steps.proofs.reader.answer.Goals as goal

pub returns-in-Ended : goal.returns-in-Ended
returns-in-Ended c = answer-as c.args.st _ c.in-Ended.is refl

pub returns-in-Refused : goal.returns-in-Refused
returns-in-Refused c = answer-as c.args.st _ c.in-Refused.is refl

pub returns-in_default : goal.returns-in_default
returns-in_default c = answer-more c.args.st c.args.st.phase refl c.in_default.not-Ended c.in_default.not-Refused
