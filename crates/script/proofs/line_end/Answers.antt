use mathlib.Core.Path.{refl, sym, ◌∙◌}
use native.Mathlib.Omega.{arith}
use Rattle.script.proofs.Lines.{search-long, search-more, search-lf, search-cr, search-plain}
use Rattle.script.proofs.line_end.Goals as goal
use Rattle.script.proofs.line_end.Goals.{then-b-lt14+else-b-eq10+else-b-eq13, else-b-lt14}

pub returns-then-b-eq10 : goal.returns-then-b-eq10
returns-then-b-eq10 c = sym (c.loop-i.invariant.0 ∙ search-lf _ _ _ _ _ c.loop-i.invariant.1 (omega arith) (omega arith) c.if-b-eq10.true)

pub returns-then-b-eq13 : goal.returns-then-b-eq13
returns-then-b-eq13 c = c.after_cr.ensures
    ∙ sym (c.loop-i.invariant.0 ∙ search-cr _ _ _ _ c.loop-i.invariant.1 (omega arith) (omega arith) c.if-b-eq13.true)

pub loop-i-preserved : goal.loop-i-preserved
loop-i-preserved c = (
  c.loop-i.invariant.0 ∙ search-plain _ _ _ _ c.loop-i.invariant.1 (omega arith) (omega arith)
      (elim c.if-b-lt14.branch [ then-b-lt14+else-b-eq10+else-b-eq13 w ↦ (omega arith, omega arith) | else-b-lt14 w ↦ (omega arith, omega arith) ]),
  omega arith,
  omega arith,
  refl,
)

pub returns-then-allowance-passed : goal.returns-then-allowance-passed
returns-then-allowance-passed c = sym (c.loop-i.invariant.0 ∙ search-long _ _ _ _ _ c.loop-i.invariant.1 (omega arith))

pub returns : goal.returns
returns c = sym (c.loop-i.invariant.0 ∙ search-more _ _ _ _ _ c.loop-i.invariant.1 (omega arith) (omega arith))
