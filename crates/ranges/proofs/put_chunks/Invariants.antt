use Rattle.ranges.proofs.Content.{ContentLeft}
use Rattle.ranges.proofs.put_chunks.Given as goal

abbrev pub invariant-loop-i : goal.invariant-loop-i
invariant-loop-i l = ContentLeft l.s l.chunks l.n l.initial.out l.at l.out l.a l.i
