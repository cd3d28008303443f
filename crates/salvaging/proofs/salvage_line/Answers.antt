use Rattle.salvaging.proofs.Laws.{line-whole, line-large}
use Rattle.salvaging.proofs.salvage_line.Goals as goal

pub returns-then-s-le-MOST : goal.returns-then-s-le-MOST
returns-then-s-le-MOST c = line-whole c.args.s.now c.if-s-le-MOST.true c.find_front.ensures c.write_line.ensures

pub returns : goal.returns
returns c = line-large c.args.s.now c.if-s-le-MOST.false c.write_line-2.ensures
