use Prim.Native.Nat.{◌-◌, ◌≤◌}
use mathlib.Core.Path.{◌≡◌}
use lib.ListN.{length, drop}
use Rattle.messages.specs.Connection.{members, any_member}
use Rattle.messages.proofs.lists.has_member.Given as goal

abbrev pub invariant-loop-m : goal.invariant-loop-m
invariant-loop-m l = (l.from ≤ length l.value) × (any_member l.name (members l.value) ≡ any_member l.name (members (drop l.from l.value)))

abbrev pub decreases-loop-m : goal.decreases-loop-m
decreases-loop-m l = length l.value - l.from
