use native.Mathlib.Omega.{arith}
use borrow.Author.Rules.{rules}
use Rattle.step_lines.proofs.Counting.{does-none, does-some, does-other}
use Rattle.step_lines.proofs.names.does_name.Goals as goal

pub returns-in-44 : goal.returns-in-44
returns-in-44 c = does-some _ _ (λ z. omega arith) (search rules) c.has_member.ensures

pub returns-in_default : goal.returns-in_default
returns-in_default c = does-none _ _ (omega arith)

pub returns-in_default-2 : goal.returns-in_default-2
returns-in_default-2 c = does-other _ _ (λ z. omega arith) (search rules)
