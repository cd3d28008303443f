use native.Mathlib.Omega.{arith}
use Rattle.output.proofs.Room.{puts}
use Rattle.binary_writer.proofs.Steps.{put-response}
use Rattle.binary_writer.proofs.put.put_response.Goals as goal

pub returns : goal.returns
returns c = let p = puts c.put_octet-a.ensures (omega (arith, c.requires.1)) in
    put-response _ _ p c.put_heads-b.ensures (puts c.put_int.ensures (omega (arith, c.requires.1, c.put_octet-a.auto, p.next, c.put_heads-b.auto, c.put_heads-b.ensures.next)))
