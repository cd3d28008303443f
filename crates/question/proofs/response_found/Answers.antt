use borrow.Author.Rules.{rules}
use mathlib.Core.Path.{◌∙◌}
use Rattle.ranges.proofs.Outcomes.{response-outcomed}
use Rattle.http1_reader.proofs.Values.{response-held}
use Rattle.turn.specs.Question.{response_question}
use Rattle.question.proofs.Laws.{outcome-within, asked_is}
use Rattle.question.proofs.response_found.Goals as goal

pub asked_from-requires : goal.asked_from-requires
asked_from-requires c = outcome-within c.args.s.now (λ r e. response-held c.args.told c.args.s.now c.response_in-o.ensures e (search rules) (search rules) (search rules) (search rules))

pub returns : goal.returns
unfolding response_question
returns c = c.asked_from.ensures ∙ asked_is c.args.s.now (λ r e. response-held c.args.told c.args.s.now c.response_in-o.ensures e (search rules) (search rules) (search rules) (search rules)) c.args.name.now (response-outcomed c.response_in-o.ensures)
