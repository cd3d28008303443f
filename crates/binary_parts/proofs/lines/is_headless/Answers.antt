use Rattle.binary_parts.proofs.Sections.{headless-ended, headless-left}
use mathlib.Core.Path.{◌∙◌}
use borrow.Author.Tests.{lt-leb}
use Rattle.binary_parts.proofs.lines.is_headless.Goals as goal

pub returns-then-s-from : goal.returns-then-s-from
returns-then-s-from c = headless-ended c.args.form c.args.s.now _ c.if-s-from.true

pub returns-else-s-from : goal.returns-else-s-from
returns-else-s-from c = lt-leb _ _ c.if-s-from.false ∙ headless-left c.args.form c.args.s.now _ c.if-s-from.false
