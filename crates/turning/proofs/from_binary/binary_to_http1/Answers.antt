use mathlib.Core.Path.{sym, ◌∙◌}
use Rattle.turning.proofs.Replies.{told-edition, told-scheme, told-other}
use Rattle.turning.proofs.from_binary.binary_to_http1.Goals as goal

pub returns-then-is_scheme : goal.returns-then-is_scheme
returns-then-is_scheme c = told-scheme c.args.told c.args.input.now (sym c.is_edition.ensures ∙ c.if-is_edition.true) (sym c.is_scheme.ensures ∙ c.if-is_scheme.true) c.turn_http1.ensures

pub returns-then-is_edition : goal.returns-then-is_edition
returns-then-is_edition c = rw c.at.ensures (told-other c.args.told c.args.input.now (sym c.is_edition.ensures ∙ c.if-is_edition.true) _ (sym c.is_scheme.ensures ∙ c.if-is_scheme.false))

pub returns : goal.returns
returns c = rw c.at-2.ensures (told-edition c.args.told c.args.input.now _ (sym c.is_edition.ensures ∙ c.if-is_edition.false))
