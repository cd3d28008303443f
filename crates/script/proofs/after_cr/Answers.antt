use mathlib.Core.Path.{sym, ◌∙◌}
use native.Mathlib.Omega.{arith}
use Rattle.script.specs.Script.{cr_state}
use Rattle.script.proofs.Lines.{line-out, line-none, line-lf, line_on}
use Rattle.script.proofs.after_cr.Goals as goal

pub returns-then-allowance-eq0 : goal.returns-then-allowance-eq0
returns-then-allowance-eq0 c = sym (line-out c.args.s.now c.args.at c.args.allowance 1 (omega arith))

pub returns-then-s-at : goal.returns-then-s-at
returns-then-s-at c = sym (line-none c.args.s.now c.args.at c.args.allowance 1 c.if-s-at.true (omega arith))

pub returns-then-s-at-eq10 : goal.returns-then-s-at-eq10
returns-then-s-at-eq10 c = sym (line-lf c.args.s.now c.args.at c.args.allowance 1 (omega arith) (omega arith) c.if-s-at-eq10.true)

pub returns : goal.returns
unfolding cr_state
returns c = c.broken_line.ensures ∙ sym (line_on c.args.s.now c.args.at c.args.allowance 1 (omega arith) (omega arith) c.if-s-at-eq10.false)
