use Rattle.steps.proofs.Picks.{trailer-kept}
use Rattle.steps.proofs.body.trailer_held.Goals as goal

pub returns : goal.returns
returns c = trailer-kept _ _ c.args.name c.args.value c.args.len c.kind_of-kind.ensures c.note-notes.ensures c.trailer_noted.ensures
