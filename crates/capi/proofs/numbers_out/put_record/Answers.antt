use mathlib.Core.Path.{◌∙◌}
use Rattle.output.proofs.Laws.{put_then}
use Rattle.capi.specs.Entries.{record_numbers}
use Rattle.capi.proofs.Giving.{bit-is}
use Rattle.capi.proofs.numbers_out.put_record.Goals as goal

pub returns : goal.returns
unfolding record_numbers
returns c = put_then (put_then c.put_control-a.ensures c.put_all-b.ensures) (rw (c.from.ensures ∙ bit-is c.args.r.closes) at c.put_stated.ensures)
