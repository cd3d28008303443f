use Rattle.output.proofs.Laws.{put_then}
use Rattle.capi.proofs.numbers_out.put_lists.Goals as goal

pub returns : goal.returns
returns c = put_then (put_then c.put_numbers-a.ensures c.put_numbers-b.ensures) c.put_numbers.ensures
