use borrow.Author.Rules.{rules}
use native.Mathlib.Omega.{arith}
use Rattle.bundle.proofs.Lists.{passing-start, passing-next, whole}
use Rattle.bundle_edit.proofs.Sweeping.{past-start, past_next}
use Rattle.bundle_edit.proofs.delivery.entry_place.Goals as goal

pub loop-k-init : goal.loop-k-init
loop-k-init c = (passing-start _ c.requires.0, past-start _)

pub word_at-word-requires : goal.word_at-word-requires
word_at-word-requires c = whole c.loop-k.invariant.0 (omega (arith, c.loop-k-test.true, c.requires.1))

pub loop-k-preserved : goal.loop-k-preserved
loop-k-preserved c = (passing-next c.loop-k.invariant.0 (omega (arith, c.loop-k-test.true, c.requires.1)) c.word_at-word.ensures, past_next c.loop-k.invariant.0 (omega (arith, c.loop-k-test.true, c.requires.1)) c.word_at-word.ensures c.loop-k.invariant.1)
