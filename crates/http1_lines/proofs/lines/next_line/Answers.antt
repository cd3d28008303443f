use native.Mathlib.Omega.{arith}
use Rattle.http1_lines.proofs.Judges.{span-by-table}
use Rattle.http1_lines.proofs.Next.{run-all, next-walked}
use Rattle.http1_lines.proofs.lines.next_line.Goals as goal

pub value_line-requires : goal.value_line-requires
value_line-requires c = (omega (arith, c.span-e.ensures), omega (arith, c.if-s-e-ge2.true), run-all _ c.args.s.now c.args.i c.span-e.ensures)

pub returns-then-e-i : goal.returns-then-e-i
returns-then-e-i c = λ h. next-walked c.args.s.now c.args.i (span-by-table h _ _ _ c.span-e.ensures) c.args.left (omega (arith, c.span-e.ensures)) (omega (arith, c.if-s-e-ge2.true)) c.if-s-e-eq13.true c.if-s-e-eq10.true (omega (arith, c.if-e-i.true)) (c.value_line.ensures h)
