use mathlib.Core.Path.{sym, ◌∙◌}
use Rattle.http1_parts.specs.Section.{no_field}
use Rattle.http1_parts.proofs.lines.no_field.Goals as goal

pub returns-then-is_full : goal.returns-then-is_full
unfolding no_field
returns-then-is_full c = rw (sym c.is_full.ensures ∙ c.if-is_full.true)

pub returns : goal.returns
unfolding no_field
returns c = rw (sym c.is_full.ensures ∙ c.if-is_full.false)
