use Rattle.http1_parts.proofs.ChunkTurns.{data-short, data-good, data-lf, data-cr}
use Rattle.http1_parts.proofs.content.chunk_data.Goals.{then-s-e-eq13+else-s-e-eq10, else-s-e-eq13}
use Rattle.http1_parts.proofs.content.chunk_data.Goals as goal

pub returns-then-s-start : goal.returns-then-s-start
returns-then-s-start c = data-short c.args.s.now _ _ c.requires.0 c.if-s-start.true

pub returns-then-s-e-eq10 : goal.returns-then-s-e-eq10
returns-then-s-e-eq10 c = data-good c.args.s.now _ _ c.requires.0 c.if-s-start.false c.if-s-e-eq13.true c.if-s-e-eq10.true

pub returns : goal.returns
returns c = rw c.at.ensures (elim c.if-s-e-eq13.branch [ then-s-e-eq13+else-s-e-eq10 w ↦ data-lf c.args.s.now _ _ c.requires.0 c.if-s-start.false w.if-s-e-eq13.true w.if-s-e-eq10.false | else-s-e-eq13 w ↦ data-cr c.args.s.now _ _ c.requires.0 c.if-s-start.false w.if-s-e-eq13.false ])
