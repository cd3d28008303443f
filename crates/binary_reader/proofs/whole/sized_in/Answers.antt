use native.Mathlib.Omega.{arith}
use mathlib.Core.Path.{refl, sym, ◌∙◌}
use borrow.Author.Tests.{leb-true}
use lib.ListN.{length}
use Rattle.octets.specs.Limits.{binary_most}
use Rattle.numbers.proofs.IntegerLaws.{long-once, int-within}
use Rattle.binary_reader.proofs.Answered.{refused-as}
use Rattle.binary_reader.proofs.WholeLaws.{whole-large, whole-cut, whole-indicated}
use Rattle.binary_reader.proofs.whole.sized_in.Goals as goal

pub returns-then-not-fits : goal.returns-then-not-fits
returns-then-not-fits c = refused-as c.at.ensures (whole-large c.args.told c.args.s.now (sym c.fits.ensures ∙ c.if-not-fits.true))

pub returns-in_default : goal.returns-in_default
returns-in_default c = refused-as c.at-in_default.ensures (whole-cut c.args.told c.args.s.now (sym c.fits.ensures ∙ c.if-not-fits.false) (sym c.in_default.ensures.0))

pub after_indicator-requires : goal.after_indicator-requires
after_indicator-requires c = (omega (arith, leb-true (length c.args.s.now) binary_most (sym c.fits.ensures ∙ c.if-not-fits.false)), c.requires.0, c.requires.1, c.requires.2, c.requires.3, omega (arith, long-once _ c.in-Some.ensures.1 refl, int-within c.args.s.now 0 (sym c.in-Some.ensures.0)))

pub returns : goal.returns
returns c = whole-indicated c.args.told c.args.s.now (sym c.fits.ensures ∙ c.if-not-fits.false) (sym c.in-Some.ensures.0) c.after_indicator.ensures
