use borrow.Author.Rules.{rules}
use Rattle.octets.specs.Text.{is_other}
use Rattle.octets.proofs.Texts.{run_len}
use Rattle.octets.proofs.find.Goals as goal

pub returns : goal.returns
unfolding is_other
returns c = (
  run_len (is_other c.args.d) c.args.s.now c.args.from c.run_end.result (λ k h g. search (rules, c.run_end.ensures.before k h g))
      (λ h. search (rules, c.run_end.ensures.behind h)) c.run_end.ensures.bound.1 c.run_end.ensures.bound.0,
  c.run_end.ensures.bound.1,
)
