use mathlib.Core.Path.{◌∙◌}
use Rattle.http1_writer.proofs.Fits.{trailers-none, trailers-some}
use Rattle.http1_writer.proofs.fitting.trailers_fit.Goals as goal

pub returns-then-count-eq0 : goal.returns-then-count-eq0
returns-then-count-eq0 c = trailers-none c.args.trailers.now c.args.count c.if-count-eq0.true

pub returns : goal.returns
returns c = c.fits.ensures ∙ rw c.section_size.ensures.0 (trailers-some c.args.trailers.now c.args.count c.if-count-eq0.false)
