use Rattle.capi.proofs.Giving.{message-size, not-given, given}
use Prim.Native.Nat.{◌*◌}
use Rattle.capi.proofs.Giving.{fits_in}
use Rattle.capi.proofs.numbers_out.give_message.Goals as goal

pub returns-then-ranges-n : goal.returns-then-ranges-n
returns-then-ranges-n c = not-given _ _ _ _ (message-size _ c.args.heads.now c.args.headers.now c.args.chunks.now c.args.trailers.now _ _ _) c.if-ranges-n.true

pub returns : goal.returns
returns c = given _ _ _ c.args.ranges.now _ _ _ _ _ _ (fits_in (message-size c.args.r c.args.heads.now c.args.headers.now c.args.chunks.now c.args.trailers.now (c.args.fields * 4) (c.args.r.chunks * 2) (c.args.r.trailers * 4)) c.if-ranges-n.false) c.put_start-a.ensures c.put_lists.ensures
