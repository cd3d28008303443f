use Rattle.http1_parts.proofs.Contents.{unmeasured-more, unmeasured-over}
use Rattle.http1_parts.proofs.content.read_unmeasured.Goals as goal

pub returns-then-s-from-le-CONTENT : goal.returns-then-s-from-le-CONTENT
returns-then-s-from-le-CONTENT c = unmeasured-more c.args.s.now c.args.from c.requires c.if-s-from-le-CONTENT.true

pub returns : goal.returns
returns c = rw c.at.ensures (unmeasured-over c.args.s.now c.args.from c.requires c.if-s-from-le-CONTENT.false)
