use borrow.Author.Rules.{rules}
use Rattle.octets.specs.Class.{is_blank}
use Rattle.octets.proofs.Texts.{run_len}
use Rattle.octets.proofs.blank_end.Goals as goal

pub returns : goal.returns
returns c = run_len is_blank c.args.s.now c.args.from c.run_end.result (λ k h g. search (rules, c.run_end.ensures.before k h g)) (λ h. search (rules, c.run_end.ensures.behind h)) c.run_end.ensures.bound.1 c.run_end.ensures.bound.0
