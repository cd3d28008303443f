use mathlib.Core.Path.{◌∙◌}
use Rattle.http1_reader.proofs.Values.{request-counts, request-by-value}
use Rattle.http1_reader.proofs.request.read_request.Goals as goal

pub reading-requires : goal.reading-requires
reading-requires c = request-counts c.args.told c.args.input.now c.request_in-o.ensures

pub returns : goal.returns
returns c = c.reading.ensures ∙ request-by-value c.args.told c.args.input.now c.request_in-o.ensures
