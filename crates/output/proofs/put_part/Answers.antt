use Prim.Native.Nat.{ℕ}
use mathlib.Core.Path.{sym, ◌∙◌}
use Rattle.output.proofs.Laws.{elements-length}
use Rattle.output.proofs.Room.{put-not}
use Rattle.output.proofs.put_part.Goals as goal
use Rattle.output.proofs.put_part.Goals.{else-lies_within-via-then-lies_within+else-lies_within-2, else-lies_within-via-else-lies_within}

pub returns : goal.returns
returns c = elim c.else-lies_within.branch [
  | else-lies_within-via-then-lies_within+else-lies_within-2 w ↦ put-not (rw (sym c.lies_within.ensures ∙ w.if-lies_within.true, sym w.lies_within-then-lies_within.ensures ∙ w.if-lies_within-2.false)) (elements-length {A = ℕ} 0 c.args.src.now c.args.from c.args.len)
  | else-lies_within-via-else-lies_within w ↦ put-not (rw (sym c.lies_within.ensures ∙ w.if-lies_within.false)) (elements-length {A = ℕ} 0 c.args.src.now c.args.from c.args.len)
]
