use mathlib.Core.Path.{refl, sym, ◌∙◌}
use native.Mathlib.Omega.{arith}
use Rattle.bundle.proofs.Walks.{walking_start, walking-end, walking-stop, walking-next, more-come, next-within}
use Rattle.bundle.proofs.reader.walk_into.Goals as goal

pub loop-number-init : goal.loop-number-init
loop-number-init c = (refl, walking_start _ _)

pub returns-in-End : goal.returns-in-End
returns-in-End c = walking-end c.loop-number.invariant.1 (sym c.in-End.is ∙ c.next_entry-next.ensures)

pub returns-in-Stop : goal.returns-in-Stop
returns-in-Stop c = walking-stop c.loop-number.invariant.1 _ (sym c.in-Stop.is ∙ c.next_entry-next.ensures)

pub store-requires : goal.store-requires
store-requires c = omega (arith, c.loop-number.invariant.1.kept, c.requires.0, more-come c.loop-number.invariant.1 _ (sym c.in-Entry.is ∙ c.next_entry-next.ensures))

pub loop-number-smaller : goal.loop-number-smaller
loop-number-smaller c = omega (arith, next-within c.loop-number.invariant.1 _ (sym c.in-Entry.is ∙ c.next_entry-next.ensures))

pub loop-number-preserved : goal.loop-number-preserved
loop-number-preserved c = (omega (arith, c.next_entry-next.auto, c.loop-number.invariant.0), walking-next c.loop-number.invariant.1 _ (sym c.in-Entry.is ∙ c.next_entry-next.ensures) c.store.ensures)
