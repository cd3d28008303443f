use Prim.Native.Nat.{ℕ}
use mathlib.Core.Path.{refl}
use Rattle.output.proofs.Laws.{elements-length}
use Rattle.output.proofs.Room.{put-not}
use Rattle.bundle.proofs.list.put_if.Goals as goal

pub returns : goal.returns
returns c = rw c.if-picked.false (put-not refl (elements-length {A = ℕ} 0 c.args.s.now c.args.at c.args.n))
