use Rattle.http1_parts.proofs.Contents.{sized-more, sized-none, sized-one}
use Rattle.http1_parts.proofs.content.read_sized.Goals as goal

pub returns-then-s-from : goal.returns-then-s-from
returns-then-s-from c = sized-more c.args.s.now c.args.from _ c.requires.0 c.if-s-from.true

pub returns-then-n-eq0 : goal.returns-then-n-eq0
returns-then-n-eq0 c = sized-none c.args.s.now c.args.from _ c.requires.0 c.if-s-from.false c.if-n-eq0.true

pub returns : goal.returns
returns c = sized-one c.args.s.now c.args.from _ c.requires.0 c.if-s-from.false c.if-n-eq0.false c.store.ensures
