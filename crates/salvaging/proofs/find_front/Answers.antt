use Rattle.salvaging.proofs.Laws.{ended, by_value}
use Rattle.salvaging.proofs.find_front.Goals as goal

pub overflow_sub-result : goal.overflow_sub-result
overflow_sub-result c = ended c.args.s.now c.read_bundle-b.ensures

pub returns : goal.returns
returns c = by_value c.args.s.now c.read_bundle-b.ensures
