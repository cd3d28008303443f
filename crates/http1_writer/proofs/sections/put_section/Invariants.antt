use Rattle.http1_writer.proofs.Turns.{LinesLeft}
use Rattle.http1_writer.proofs.sections.put_section.Given as goal

abbrev pub invariant-loop-i : goal.invariant-loop-i
invariant-loop-i l = LinesLeft l.s l.fields l.k l.n l.initial.out l.at l.out l.a l.i
