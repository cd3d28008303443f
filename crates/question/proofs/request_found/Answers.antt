use borrow.Author.Rules.{rules}
use mathlib.Core.Path.{◌∙◌}
use Rattle.http1_reader.proofs.Values.{request-held}
use Rattle.turn.specs.Question.{request_question}
use Rattle.question.proofs.Laws.{outcome-within, asked_is}
use Rattle.question.proofs.request_found.Goals as goal

pub asked_from-requires : goal.asked_from-requires
asked_from-requires c = outcome-within c.args.s.now (λ r e. request-held c.args.told c.args.s.now _ c.request_in-o.ensures e (search rules) (search rules) (search rules))

pub returns : goal.returns
unfolding request_question
returns c = c.asked_from.ensures ∙ asked_is c.args.s.now (λ r e. request-held c.args.told c.args.s.now _ c.request_in-o.ensures e (search rules) (search rules) (search rules)) c.args.name.now c.request_in-o.ensures
