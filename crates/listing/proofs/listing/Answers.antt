use mathlib.Core.Path.{sym, ◌∙◌}
use borrow.Author.Tests.{leb-false}
use Rattle.listing.proofs.Laws.{listing-large, served-as}
use Rattle.listing.proofs.listing.Goals as goal

pub returns : goal.returns
returns c = served-as (listing-large c.args.s.now (leb-false _ _ (sym c.fits.ensures ∙ c.if-fits.false))) c.put_large.ensures
