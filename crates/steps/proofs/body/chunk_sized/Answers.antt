use mathlib.Core.Path.{refl}
use Rattle.steps.proofs.Picks.{chunk-none, chunk-many, chunk-large, chunk-some}
use Rattle.steps.proofs.body.chunk_sized.Goals as goal

pub returns-then-n-eq0 : goal.returns-then-n-eq0
returns-then-n-eq0 c = chunk-none _ _ c.if-n-eq0.true c.fresh_word-l.ensures c.no_notes-notes.ensures c.in_section.ensures

pub returns-then-st-ge-CHUNKS : goal.returns-then-st-ge-CHUNKS
returns-then-st-ge-CHUNKS c = chunk-many _ _ c.if-n-eq0.false c.if-st-ge-CHUNKS.true c.refused.ensures

pub returns-then-st-n-gt-CONTENT : goal.returns-then-st-n-gt-CONTENT
returns-then-st-n-gt-CONTENT c = chunk-large _ _ c.if-n-eq0.false c.if-st-ge-CHUNKS.false c.if-st-n-gt-CONTENT.true c.refused-then-st-n-gt-CONTENT.ensures

pub returns : goal.returns
returns c = chunk-some _ _ c.if-n-eq0.false c.if-st-ge-CHUNKS.false c.if-st-n-gt-CONTENT.false c.fresh_word-l-2.ensures refl c.with_tally-s.ensures c.onward.ensures
