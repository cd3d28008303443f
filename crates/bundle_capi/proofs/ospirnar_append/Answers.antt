use Prim.Native.Nat.{◌<◌}
use borrow.Author.Rules.{rules}
use lib.ListN.{length}
use Rattle.bundle_capi.proofs.Updating.{append-index}
use Rattle.bundle_capi.proofs.ospirnar_append.Goals as goal

pub offset_bounds-table-i : goal.offset_bounds-table-i
offset_bounds-table-i c =
    let h : c.in-Some.i < length c.args.table.now = append-index _ _ _ _ _ c.append-p.ensures.0 c.in-Some.is in
    search rules

pub slice_copy_out-enter : goal.slice_copy_out-enter
slice_copy_out-enter c = append-index _ _ _ _ _ c.append-p.ensures.0 c.in-Some.is

pub offset_bounds-table-i-in-Some : goal.offset_bounds-table-i-in-Some
offset_bounds-table-i-in-Some c =
    let h : c.in-Some.i < length c.args.table.now = append-index _ _ _ _ _ c.append-p.ensures.0 c.in-Some.is in
    search rules

pub bounds-table-i : goal.bounds-table-i
bounds-table-i c = append-index _ _ _ _ _ c.append-p.ensures.0 c.in-Some.is
