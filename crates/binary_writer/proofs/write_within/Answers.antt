use mathlib.Core.Path.{sym, ◌∙◌}
use native.Mathlib.Omega.{arith}
use borrow.Author.Tests.{leb-true, leb-false}
use Rattle.octets.specs.Limits.{binary_most}
use Rattle.binary_writer.proofs.Lengths.{message-length}
use Rattle.binary_writer.proofs.Whole.{binary-large, binary-small, binary-done}
use Rattle.binary_writer.proofs.write_within.Goals as goal

pub returns-then-out-n : goal.returns-then-out-n
returns-then-out-n c = rw c.at.ensures (binary-small _ (message-length c.requires ∙ sym c.message_size-n.ensures) (leb-true _ _ (sym c.fits.ensures ∙ c.if-fits.true)) c.if-out-n.true)

pub returns-then-fits : goal.returns-then-fits
returns-then-fits c = binary-done _ (message-length c.requires) (omega (arith, c.message_size-n.ensures, leb-true c.message_size-n.result binary_most (sym c.fits.ensures ∙ c.if-fits.true))) (omega (arith, c.message_size-n.ensures, c.if-out-n.false)) c.put_message.ensures

pub returns : goal.returns
returns c = rw c.at-2.ensures (binary-large _ (message-length c.requires ∙ sym c.message_size-n.ensures) _ (leb-false _ _ (sym c.fits.ensures ∙ c.if-fits.false)))
