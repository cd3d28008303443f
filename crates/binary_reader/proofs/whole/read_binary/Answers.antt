use mathlib.Core.Path.{◌∙◌}
use Rattle.binary_reader.proofs.WholeLaws.{binary-counts, binary-by-value}
use Rattle.binary_reader.proofs.whole.read_binary.Goals as goal

pub reading-requires : goal.reading-requires
reading-requires c = binary-counts c.args.told c.args.input.now c.binary_in-o.ensures

pub returns : goal.returns
returns c = c.reading.ensures ∙ binary-by-value c.args.told c.args.input.now c.binary_in-o.ensures
