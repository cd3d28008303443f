use Rattle.bundle.proofs.Heads.{next-end, next-cut, next-full, next-headed}
use Rattle.bundle.proofs.entry.next_entry.Goals as goal

pub returns-then-s-at : goal.returns-then-s-at
returns-then-s-at c = next-end c.args.s.now c.args.at c.args.left c.if-s-at.true

pub returns-then-s-at-lt4 : goal.returns-then-s-at-lt4
returns-then-s-at-lt4 c = next-cut c.args.s.now c.args.at c.args.left c.if-s-at.false c.if-s-at-lt4.true

pub returns-then-left-eq0 : goal.returns-then-left-eq0
returns-then-left-eq0 c = next-full c.args.s.now c.args.at c.args.left c.if-s-at.false c.if-s-at-lt4.false c.if-left-eq0.true

pub returns : goal.returns
returns c = next-headed c.args.s.now c.args.at c.args.left c.if-s-at.false c.if-s-at-lt4.false c.if-left-eq0.false c.word_at-word.ensures c.headed_entry.ensures
