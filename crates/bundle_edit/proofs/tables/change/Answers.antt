use borrow.Author.Tests.{lt-ltb, le-ltb, eq-eqb, ne_eqb}
use Rattle.bundle_edit.specs.Changes.{changed}
use Rattle.bundle_edit.proofs.tables.change.Goals as goal

pub returns-then-c : goal.returns-then-c
unfolding changed
returns-then-c c = simp (lt-ltb _ _ c.if-k-lt127.true, eq-eqb _ _ c.if-c.true)

pub returns-then-c-2 : goal.returns-then-c-2
unfolding changed
returns-then-c-2 c = simp (c.minus.ensures, lt-ltb _ _ c.if-k-lt127.true, ne_eqb _ _ c.if-c.false, eq-eqb _ _ c.if-c-2.true)

pub returns-else-c-2 : goal.returns-else-c-2
unfolding changed
returns-else-c-2 c = simp (lt-ltb _ _ c.if-k-lt127.true, ne_eqb _ _ c.if-c.false, ne_eqb _ _ c.if-c-2.false)

pub returns-else-k-lt127 : goal.returns-else-k-lt127
unfolding changed
returns-else-k-lt127 c = simp (le-ltb _ _ c.if-k-lt127.false)
