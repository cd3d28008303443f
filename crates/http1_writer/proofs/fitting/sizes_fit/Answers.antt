use mathlib.Core.Path.{sym, ◌∙◌}
use Rattle.http1_writer.proofs.Fits.{fits_head, fits-lines, fits-trailers}
use Rattle.http1_writer.proofs.fitting.sizes_fit.Goals as goal

pub returns-then-fits-2 : goal.returns-then-fits-2
returns-then-fits-2 c = c.trailers_fit.ensures ∙ fits-trailers c.args.head c.args.r c.args.line c.args.trailers.now (sym c.fits.ensures ∙ c.if-fits.true) (rw (sym c.head_count.ensures) (sym c.fits-then-fits.ensures ∙ c.if-fits-2.true))

pub returns-then-fits : goal.returns-then-fits
returns-then-fits c = fits-lines c.args.head c.args.r c.args.line c.args.trailers.now (sym c.fits.ensures ∙ c.if-fits.true) (rw (sym c.head_count.ensures) (sym c.fits-then-fits.ensures ∙ c.if-fits-2.false))

pub returns : goal.returns
returns c = fits_head c.args.head c.args.r c.args.line c.args.trailers.now (sym c.fits.ensures ∙ c.if-fits.false)
