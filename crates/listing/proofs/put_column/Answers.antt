use Rattle.output.proofs.Room.{puts, puts_then}
use Rattle.listing.proofs.put_column.Goals as goal

pub returns : goal.returns
returns c = puts_then (puts c.put_decimal-a.ensures) (puts c.put_octet.ensures) c.requires
