use Prim.Native.Nat.{◌<◌}
use borrow.Author.Rules.{rules}
use lib.ListN.{length}
use Rattle.bundle_capi.proofs.Updating.{slot-index}
use Rattle.bundle_capi.proofs.ospirnar_totals.Goals as goal

pub offset_bounds-table-i : goal.offset_bounds-table-i
offset_bounds-table-i c =
    let h : c.in-Ok.i < length c.args.table.now = slot-index _ _ c.in-Ok.ensures in
    search rules

pub bounds-table-i : goal.bounds-table-i
bounds-table-i c = slot-index _ _ c.in-Ok.ensures
