use Rattle.output.proofs.Laws.{put_then}
use Rattle.http1_writer.proofs.heads.put_informational.Goals as goal

pub returns : goal.returns
returns c = put_then c.put_status-a.ensures c.put_section.ensures
