use Rattle.std.proofs.Common.{◌≡◌}
use Rattle.bundle_capi.proofs.Updating.{changed_first}
use Rattle.bundle_capi.proofs.update_all.Given as goal

-- the first i records are changed
abbrev pub invariant-loop-i : goal.invariant-loop-i
invariant-loop-i l = l.table ≡ changed_first l.c 0 l.i l.initial.table
