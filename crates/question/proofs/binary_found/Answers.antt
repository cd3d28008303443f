use borrow.Author.Rules.{rules}
use mathlib.Core.Path.{◌∙◌}
use Rattle.ranges.proofs.Outcomes.{held, response-outcomed}
use Rattle.binary_sound.proofs.Sound.{binary-sound}
use Rattle.turn.specs.Question.{binary_question}
use Rattle.question.proofs.Laws.{outcome-within, asked_is}
use Rattle.question.proofs.binary_found.Goals as goal

pub asked_from-requires : goal.asked_from-requires
asked_from-requires c = outcome-within c.args.s.now (λ r e. held c.args.s.now c.binary_in-o.ensures e (λ n m q. (binary-sound c.args.told c.args.s.now n m q).sound) (search rules) (search rules) (search rules) (search rules))

pub returns : goal.returns
unfolding binary_question
returns c = c.asked_from.ensures ∙ asked_is c.args.s.now (λ r e. held c.args.s.now c.binary_in-o.ensures e (λ n m q. (binary-sound c.args.told c.args.s.now n m q).sound) (search rules) (search rules) (search rules) (search rules)) c.args.name.now (response-outcomed c.binary_in-o.ensures)
