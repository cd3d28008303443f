use borrow.Author.Rules.{rules}
use Rattle.octets.specs.Table.{has_in}
use Rattle.octets.proofs.Texts.{run_len}
use Rattle.octets.proofs.span.Goals as goal

pub returns : goal.returns
returns c = run_len (has_in c.args.t.now c.args.mask) c.args.s.now c.args.from c.run_end.result (λ k h g. search (rules, c.run_end.ensures.before k h g)) (λ h. search (rules, c.run_end.ensures.behind h)) c.run_end.ensures.bound.1 c.run_end.ensures.bound.0
