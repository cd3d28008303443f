use Rattle.output.proofs.Laws.{put_then}
use Rattle.listing.proofs.put_row.Goals as goal

pub returns : goal.returns
returns c = put_then (put_then (put_then c.put_column-a.ensures c.put_column-b.ensures) c.put_column-d.ensures) c.put_counts.ensures
