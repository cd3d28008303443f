use Rattle.std.proofs.Common.{length-take, arith}
use Rattle.output.proofs.Laws.{put_as, elements-take}
use Rattle.capi.proofs.numbers_out.put_numbers.Goals as goal

pub returns : goal.returns
returns c = put_as (elements-take 0 c.args.src.now 0 c.args.len (omega (arith, c.requires.len_in_bounds_2)), omega (arith, length-take c.args.len c.args.src.now, c.requires.len_in_bounds_2)) c.put_all.ensures
