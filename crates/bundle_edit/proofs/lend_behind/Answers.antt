use Rattle.output.proofs.Serve.{serve-tail}
use Rattle.bundle_edit.proofs.Appends.{lent-plain}
use Rattle.bundle_edit.proofs.lend_behind.Goals as goal

pub returns : goal.returns
returns c = lent-plain _ c.plain-told.ensures (serve-tail c.requires c.binary_to_binary.ensures)
