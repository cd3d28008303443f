use Rattle.bundle.proofs.Lists.{passing-start, passing-next, whole}
use Rattle.bundle_edit.proofs.Counting.{counting-start, counting-length, counting-flock, counting-next}
use Rattle.bundle_edit.proofs.tables.count_entries.Goals as goal

pub loop-i-init : goal.loop-i-init
loop-i-init c = (passing-start _ c.requires.count_value, counting-start _ _ c.requires.counts_value)

pub word_at-word-requires : goal.word_at-word-requires
word_at-word-requires c = whole c.loop-i.invariant.0 c.loop-i-test.true

pub count_if-requires : goal.count_if-requires
count_if-requires c = (counting-length c.loop-i.invariant.1, counting-flock c.loop-i.invariant.0 c.loop-i-test.true c.word_at-word.ensures c.loop-i.invariant.1)

pub loop-i-preserved : goal.loop-i-preserved
loop-i-preserved c = (passing-next c.loop-i.invariant.0 c.loop-i-test.true c.word_at-word.ensures, counting-next c.loop-i.invariant.0 c.loop-i-test.true c.word_at-word.ensures c.loop-i.invariant.1 c.is_counted.ensures c.count_if.ensures)
