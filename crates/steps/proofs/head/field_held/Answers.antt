use Rattle.steps.proofs.Picks.{field-kept}
use Rattle.steps.proofs.head.field_held.Goals as goal

pub returns : goal.returns
returns c = field-kept _ _ c.args.name c.args.value c.args.len c.kind_of-kind.ensures c.note-notes.ensures c.keep-n.ensures c.field_noted.ensures
