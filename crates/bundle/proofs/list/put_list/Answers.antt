use Rattle.bundle.proofs.Lists.{passing-start, passing-next, whole, listing_start, listing-next, listing-end}
use Rattle.bundle.proofs.list.put_list.Goals as goal

pub loop-i-init : goal.loop-i-init
loop-i-init c = (passing-start _ c.requires.count_value, listing_start _ _ _)

pub word_at-word-requires : goal.word_at-word-requires
word_at-word-requires c = whole c.loop-i.invariant.0 c.loop-i-test.true

pub loop-i-preserved : goal.loop-i-preserved
loop-i-preserved c = (passing-next c.loop-i.invariant.0 c.loop-i-test.true c.word_at-word.ensures, listing-next c.args.flock c.loop-i.invariant.0 c.loop-i-test.true c.word_at-word.ensures c.loop-i.invariant.1 c.requires.s_in_bounds c.is_of.ensures c.put_if-o.ensures)

pub returns : goal.returns
returns c = listing-end c.args.flock c.loop-i.invariant.0 c.loop-i.invariant.1 c.loop-i-test.false
