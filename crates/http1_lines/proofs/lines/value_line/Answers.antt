use mathlib.Core.Path.{◌∙◌}
use native.Mathlib.Omega.{arith}
use Rattle.http1_lines.proofs.Next.{judged-empty, judged-some, part-long}
use Rattle.http1_lines.proofs.lines.value_line.Goals as goal

pub returns-then-e-i : goal.returns-then-e-i
returns-then-e-i c = λ h. judged-empty _ _ (part-long _ _ _ c.requires.0 (omega (arith, c.requires.1)) ∙ omega (arith, c.if-e-i.true))

pub returns : goal.returns
returns c = λ h. judged-some _ _ (λ z. c.if-e-i.false (omega (arith, z, c.requires.0, part-long c.args.s.now c.args.i c.args.e c.requires.0 (omega (arith, c.requires.1))))) (c.plain_line-f.ensures h) c.of_field.ensures
