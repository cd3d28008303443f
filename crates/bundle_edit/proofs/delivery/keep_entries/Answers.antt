use Rattle.bundle.proofs.Lists.{passing-start, passing-next}
use Rattle.bundle_edit.proofs.Sweeping.{keeps-start, keeps-whole, keeps-word, keeps-within, keeps-next}
use Rattle.bundle_edit.proofs.delivery.keep_entries.Goals as goal

pub loop-i-init : goal.loop-i-init
loop-i-init c = (passing-start _ c.requires.count_value, keeps-start _ _)

pub word_at-word-requires : goal.word_at-word-requires
word_at-word-requires c = keeps-whole c.requires.used_in_bounds c.loop-i.invariant.0 c.loop-i-test.true c.loop-i.invariant.1

pub keep_if-end-requires : goal.keep_if-end-requires
keep_if-end-requires c = (c.loop-i.invariant.1.before, keeps-within c.requires.used_in_bounds c.loop-i.invariant.0 c.loop-i-test.true c.loop-i.invariant.1 c.word_at-word.ensures)

pub loop-i-preserved : goal.loop-i-preserved
loop-i-preserved c = (passing-next c.loop-i.invariant.0 c.loop-i-test.true (keeps-word c.requires.used_in_bounds c.loop-i.invariant.0 c.loop-i-test.true c.loop-i.invariant.1 c.word_at-word.ensures), keeps-next c.requires.used_in_bounds c.loop-i.invariant.0 c.loop-i-test.true c.loop-i.invariant.1 c.word_at-word.ensures c.is_delivered.ensures c.keep_if-end.ensures)
