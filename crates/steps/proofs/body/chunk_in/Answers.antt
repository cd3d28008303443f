use mathlib.Core.Path.{sym, ◌∙◌}
use Rattle.http1_lines.proofs.Views.{chunk-within}
use Rattle.steps.proofs.Picks.{chunk-good, chunk-bad}
use Rattle.steps.proofs.body.chunk_in.Goals as goal

pub chunk_sized-requires : goal.chunk_sized-requires
chunk_sized-requires c = (c.requires.0, c.requires.1, chunk-within _ _ (sym (c.chunk_line.ensures c.class_table-t.ensures) ∙ c.in-Some.is))

pub returns-in-Some : goal.returns-in-Some
returns-in-Some c = chunk-good _ _ _ (sym (c.chunk_line.ensures c.class_table-t.ensures) ∙ c.in-Some.is) c.chunk_sized.ensures

pub returns-in-None : goal.returns-in-None
returns-in-None c = chunk-bad _ _ (sym (c.chunk_line.ensures c.class_table-t.ensures) ∙ c.in-None.is) c.refused.ensures
