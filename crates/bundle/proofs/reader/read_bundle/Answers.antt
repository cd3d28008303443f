use Rattle.bundle.proofs.Walks.{by_value}
use Rattle.bundle.proofs.reader.read_bundle.Goals as goal

pub returns : goal.returns
returns c = by_value c.args.s.now c.walk_into-e.ensures
