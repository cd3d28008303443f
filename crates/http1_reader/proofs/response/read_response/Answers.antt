use mathlib.Core.Path.{◌∙◌}
use Rattle.http1_reader.proofs.Values.{response-counts, response-by-value}
use Rattle.http1_reader.proofs.response.read_response.Goals as goal

pub reading-requires : goal.reading-requires
reading-requires c = response-counts c.args.told c.args.input.now c.response_in-o.ensures

pub returns : goal.returns
returns c = c.reading.ensures ∙ response-by-value c.args.told c.args.input.now c.response_in-o.ensures
