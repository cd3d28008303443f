use Rattle.output.proofs.Laws.{put-none, put_as}
use Rattle.output.proofs.Room.{puts}
use Rattle.binary_writer.proofs.Lengths.{is-missing}
use Rattle.binary_writer.proofs.Steps.{put-length}
use Rattle.binary_writer.proofs.put.put_stated.Goals as goal

pub returns-in-None : goal.returns-in-None
returns-in-None c = let e = is-missing c.in-None.is in put_as (e.bytes, e.size) (put-none _ _)

pub returns-in-Some : goal.returns-in-Some
returns-in-Some c = put-length c.in-Some.is c.digit_count.ensures (puts c.put_text-a.ensures) (puts c.put_int-b.ensures) (puts c.put_decimal.ensures) c.requires
