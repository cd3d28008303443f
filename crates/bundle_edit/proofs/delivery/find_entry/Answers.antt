use Rattle.bundle_edit.proofs.Sweeping.{finds-front}
use Rattle.bundle_edit.proofs.delivery.find_entry.Goals as goal

pub returns : goal.returns
returns c = finds-front c.requires.used_in_bounds c.entry_in.ensures
