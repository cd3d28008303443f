use Rattle.bundle.proofs.Lists.{passing-start, passing-next, whole, sizing-start, sizing-next, sizing-end}
use Rattle.bundle.proofs.list.list_size.Goals as goal

pub loop-i-init : goal.loop-i-init
loop-i-init c = (passing-start _ c.requires, sizing-start _ _)

pub word_at-word-requires : goal.word_at-word-requires
word_at-word-requires c = whole c.loop-i.invariant.0 c.loop-i-test.true

pub loop-i-preserved : goal.loop-i-preserved
loop-i-preserved c = (passing-next c.loop-i.invariant.0 c.loop-i-test.true c.word_at-word.ensures, sizing-next c.loop-i.invariant.0 c.loop-i-test.true c.word_at-word.ensures c.loop-i.invariant.1 c.is_of.ensures c.size_if-size.ensures)

pub returns : goal.returns
returns c = sizing-end c.loop-i.invariant.0 c.loop-i.invariant.1 c.loop-i-test.false
