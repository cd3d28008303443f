use native.Mathlib.Omega.{arith}
use Rattle.output.proofs.Room.{puts}
use Rattle.binary_writer.proofs.Steps.{put-request}
use Rattle.binary_writer.proofs.put.put_request.Goals as goal

pub returns : goal.returns
returns c = put-request _ _ _ _ (puts c.put_octet-a.ensures (omega (arith, c.requires.3))) c.put_counted_part-b.ensures c.put_scheme-d.ensures c.put_counted_part-e.ensures c.put_counted_path.ensures
