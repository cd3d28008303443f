use Rattle.output.proofs.Room.{puts, puts_then}
use Rattle.salvaging.proofs.put_labelled.Goals as goal

pub returns : goal.returns
returns c = puts_then (puts c.put_text-a.ensures) (puts c.put_decimal.ensures)
