use native.Mathlib.Omega.{arith}
use Rattle.step_lines.proofs.Moving.{lowered}
use Rattle.step_lines.proofs.room.put_lower.Goals as goal

pub returns : goal.returns
returns c = lowered _ _ _ _ _ c.requires (omega arith) c.make_ascii_lowercase.ensures.after
