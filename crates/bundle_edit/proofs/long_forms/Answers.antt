use Rattle.bundle.specs.Bundle.{read_message}
use Rattle.bundle_edit.proofs.Appends.{long-plain, long-message}
use Rattle.bundle_edit.proofs.long_forms.Goals as goal

pub returns-in-Ok : goal.returns-in-Ok
returns-in-Ok c = long-message (read_message c.args.message.now) (long-plain c.args.message.now _ c.plain-told.ensures c.read_binary-m.ensures) c.in-Ok.is
