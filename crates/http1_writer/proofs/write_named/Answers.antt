use mathlib.Core.Path.{sym, ◌∙◌}
use Rattle.http1_writer.proofs.Serving.{served-other, served-large, served-fitting}
use Rattle.http1_writer.proofs.write_named.Goals as goal

pub returns-then-sizes_fit : goal.returns-then-sizes_fit
returns-then-sizes_fit c = served-fitting c.requires _ c.args.told c.length_line-line.ensures (sym c.is_connected.ensures ∙ c.if-is_connected.true) (rw (sym c.measure_head-head.ensures.0) (sym c.sizes_fit.ensures ∙ c.if-sizes_fit.true)) c.put_message.ensures

pub returns-then-is_connected : goal.returns-then-is_connected
returns-then-is_connected c = rw c.at.ensures (served-large c.requires _ c.args.told c.length_line-line.ensures _ (sym c.is_connected.ensures ∙ c.if-is_connected.true) (rw (sym c.measure_head-head.ensures.0) (sym c.sizes_fit.ensures ∙ c.if-sizes_fit.false)))

pub returns : goal.returns
returns c = rw c.at-2.ensures (served-other c.requires c.args.told _ (sym c.is_connected.ensures ∙ c.if-is_connected.false))
