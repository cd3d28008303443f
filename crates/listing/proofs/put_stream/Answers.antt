use mathlib.Core.Path.{sym}
use native.Mathlib.Omega.{arith}
use Rattle.listing.proofs.Laws.{listing-small, titled-small, titled-done}
use Rattle.listing.proofs.put_stream.Goals as goal

pub returns-then-out-n : goal.returns-then-out-n
returns-then-out-n c = rw c.at.ensures (titled-small (listing-small c.args.s.now c.requires) (sym c.rows_size-n.ensures.0) c.if-out-n.true)

pub returns : goal.returns
returns c = titled-done (listing-small c.args.s.now c.requires) (omega (arith, c.rows_size-n.ensures.0, c.if-out-n.false)) c.put_title-a.ensures c.put_rows-b.ensures
