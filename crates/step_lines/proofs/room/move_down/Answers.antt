use Rattle.std.proofs.Common.{ap, ◌∙◌, arith}
use Rattle.output.specs.Splice.{splice}
use Rattle.output.proofs.Laws.{elements-take}
use Rattle.output.proofs.Copies.{splice-within}
use Rattle.step_lines.proofs.room.move_down.Goals as goal

pub returns : goal.returns
returns c =
    splice-within c.args.room.now c.args.to c.args.from c.args.n (omega arith) c.copy_within.ensures.after c.requires.1 (omega (arith, c.requires))
    ∙ ap (splice c.args.room.now c.args.to) (elements-take 0 c.args.room.now c.args.from c.args.n c.requires.1)
