use mathlib.Core.Path.{◌≡◌, refl, ◌∙◌}
use Prim.Native.Nat.{◌<◌}
use native.Mathlib.Omega.{arith}
use lib.ListN.{length}
use Rattle.bundle_capi.proofs.Updating.{changed_first, first-all, first_next}
use Rattle.bundle_capi.proofs.update_all.Goals as goal

pub loop-i-init : goal.loop-i-init
unfolding changed_first
loop-i-init c = refl

pub loop-i-preserved : goal.loop-i-preserved
loop-i-preserved c =
    let lt : c.loop-i.i < length c.args.table.now = omega arith in
    rw (c.change.ensures, c.loop-i.invariant) (first_next c.args.c c.loop-i.i c.args.table.now lt)

pub returns : goal.returns
returns c =
    let q : c.loop-i.i ≡ length c.args.table.now = omega arith in
    c.loop-i.invariant ∙ rw q (first-all c.args.c 0 c.args.table.now)
