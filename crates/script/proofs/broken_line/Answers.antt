use mathlib.Core.Path.{sym, ◌∙◌}
use native.Mathlib.Omega.{arith}
use Rattle.script.specs.Script.{cr_state}
use Rattle.script.proofs.Lines.{search-long, search-more, search-lf, search-on}
use Rattle.script.proofs.broken_line.Goals as goal

pub returns-then-s-i-eq10 : goal.returns-then-s-i-eq10
returns-then-s-i-eq10 c = sym (c.loop-i.invariant.0 ∙ search-lf _ _ _ _ _ c.loop-i.invariant.1 (omega arith) (omega arith) c.if-s-i-eq10.true)

pub loop-i-preserved : goal.loop-i-preserved
unfolding cr_state
loop-i-preserved c = (c.loop-i.invariant.0 ∙ search-on _ _ _ _ _ c.loop-i.invariant.1 (omega arith) (omega arith) c.if-s-i-eq10.false, omega arith, omega arith)

pub returns-then-allowance-end : goal.returns-then-allowance-end
returns-then-allowance-end c = sym (c.loop-i.invariant.0 ∙ search-long _ _ _ _ _ c.loop-i.invariant.1 (omega arith))

pub returns : goal.returns
returns c = sym (c.loop-i.invariant.0 ∙ search-more _ _ _ _ _ c.loop-i.invariant.1 (omega arith) (omega arith))
