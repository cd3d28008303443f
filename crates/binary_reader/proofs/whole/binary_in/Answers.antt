use mathlib.Core.Path.{sym, ◌∙◌}
use Rattle.binary_reader.proofs.Answered.{refused-as}
use Rattle.binary_reader.proofs.WholeLaws.{edition-told, edition-other}
use Rattle.binary_reader.proofs.whole.binary_in.Goals as goal

pub returns-then-is_edition : goal.returns-then-is_edition
returns-then-is_edition c = edition-told c.args.told c.args.s.now (sym c.is_edition.ensures ∙ c.if-is_edition.true) c.sized_in.ensures

pub returns-else-is_edition : goal.returns-else-is_edition
returns-else-is_edition c = refused-as c.at.ensures (edition-other c.args.told c.args.s.now (sym c.is_edition.ensures ∙ c.if-is_edition.false))
