use Rattle.binary_writer.proofs.Steps.{size-message}
use Rattle.binary_writer.proofs.measure.message_size.Goals as goal

pub returns : goal.returns
returns c = size-message c.args.r c.args.fields.now c.args.heads.now c.args.trailers.now c.control_size-control.ensures.0 c.fields_before-k.ensures c.header_size-headers.ensures.0 c.counted_size-content.ensures.0 c.section_size.ensures.0
