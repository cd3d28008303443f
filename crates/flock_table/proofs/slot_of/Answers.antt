use mathlib.Core.Path.{sym}
use Rattle.flock_table.specs.Table as spec
use Rattle.flock_table.proofs.slot_of.Goals as goal

pub returns-then-not-is_table : goal.returns-then-not-is_table
unfolding spec.slot_of
returns-then-not-is_table c = simp (sym c.if-not-is_table.ensures)

pub returns-then-not-is_flock : goal.returns-then-not-is_flock
unfolding spec.slot_of
returns-then-not-is_flock c = simp (sym c.if-not-is_table.ensures, sym c.if-not-is_flock.ensures)

pub returns : goal.returns
unfolding spec.slot_of
returns c = simp (sym c.if-not-is_table.ensures, sym c.if-not-is_flock.ensures)
