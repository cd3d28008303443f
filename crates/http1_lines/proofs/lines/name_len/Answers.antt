use native.Mathlib.Omega.{arith}
use Rattle.http1_lines.proofs.Judges.{name-short, name-other, name-colon, span-by-table}
use Rattle.http1_lines.proofs.lines.name_len.Goals as goal

pub returns-then-w-n : goal.returns-then-w-n
returns-then-w-n c = (omega arith, λ h. name-short c.args.w.now (span-by-table h _ _ _ c.span-n.ensures) c.if-w-n.true)

pub returns-then-w-n-eq58 : goal.returns-then-w-n-eq58
returns-then-w-n-eq58 c = (omega (arith, c.if-w-n.false), λ h. name-colon c.args.w.now (span-by-table h _ _ _ c.span-n.ensures) (omega (arith, c.if-w-n.false)) c.if-w-n-eq58.true)

pub returns : goal.returns
returns c = (omega arith, λ h. name-other c.args.w.now (span-by-table h _ _ _ c.span-n.ensures) (omega (arith, c.if-w-n.false)) c.if-w-n-eq58.false)
