use native.Mathlib.Omega.{arith}
use Rattle.output.proofs.Room.{puts}
use Rattle.output.proofs.Laws.{left-turn, left-last}
use Rattle.http1_writer.proofs.Turns.{section-length, section-more, section-none}
use Rattle.http1_writer.proofs.sections.put_section.Goals as goal

pub loop-i-preserved : goal.loop-i-preserved
loop-i-preserved c = let e = section-more c.args.s.now c.args.fields.now c.args.k c.args.n c.loop-i.i c.loop-i-test.true in left-turn c.loop-i.invariant e c.put_line-a.ensures

pub returns : goal.returns
returns c = let e = section-none c.args.s.now c.args.fields.now c.args.k c.args.n c.loop-i.i c.loop-i-test.false in left-last c.loop-i.invariant (section-length c.args.s.now c.args.fields.now c.args.k c.args.n) e (puts c.put_text.ensures (omega (arith, e.1, c.loop-i.invariant.next, c.loop-i.invariant.kept, c.requires.1)))
