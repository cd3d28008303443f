use Rattle.salvaging.proofs.Laws.{no-room, salvaged}
use Rattle.salvaging.proofs.salvage.Goals as goal

pub returns-then-out-f : goal.returns-then-out-f
returns-then-out-f c = no-room c.args.s.now c.find_front-f.ensures c.if-out-f.true

pub returns : goal.returns
returns c = salvaged c.args.s.now c.find_front-f.ensures c.if-out-f.false c.put_part-n.ensures
