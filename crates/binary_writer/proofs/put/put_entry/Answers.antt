use Rattle.binary_writer.proofs.Steps.{put-field}
use Rattle.binary_writer.proofs.put.put_entry.Goals as goal

pub returns : goal.returns
returns c = put-field c.args.s.now c.args.ranges.now c.args.k c.number_at-name.ensures.0 c.number_at-nlen.ensures.0 c.number_at-value.ensures.0 c.number_at-vlen.ensures.0 c.put_counted_lower-a.ensures c.put_counted.ensures
