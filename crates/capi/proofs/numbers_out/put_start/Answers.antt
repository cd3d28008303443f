use Rattle.output.proofs.Laws.{put_then}
use Rattle.capi.proofs.numbers_out.put_start.Goals as goal

pub returns : goal.returns
returns c = put_then c.put_record-a.ensures c.put_numbers.ensures
