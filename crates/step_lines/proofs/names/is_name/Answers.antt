use native.Mathlib.Omega.{arith}
use borrow.Author.Rules.{rules}
use Rattle.step_lines.proofs.Counting.{name-none, name-connection, name-host, name-some}
use Rattle.step_lines.proofs.names.is_name.Goals as goal

pub returns-in_default : goal.returns-in_default
returns-in_default c = name-some _ (λ z. omega arith) (search rules) (search rules)

pub returns-in-empty : goal.returns-in-empty
returns-in-empty c = name-none _ (omega arith)

pub returns-in-empty-2 : goal.returns-in-empty-2
returns-in-empty-2 c = name-connection _ (λ z. omega arith) (search rules)

pub returns-in-empty-3 : goal.returns-in-empty-3
returns-in-empty-3 c = name-host _ (λ z. omega arith) (search rules) (search rules)
