use Prim.Native.Nat.{◌-◌}
use mathlib.Core.Path.{◌≡◌}
use lib.ListN.{length}
use Rattle.http1_reader.proofs.ResponseTurns.{HeadsTo}
use Rattle.http1_reader.proofs.response.read_heads.Given as goal

abbrev pub invariant-loop-status : goal.invariant-loop-status
invariant-loop-status l = (length l.headers ≡ length l.initial.headers) × (length l.informational ≡ length l.initial.informational) × HeadsTo l.s l.initial.headers l.headers l.initial.informational l.informational l.i l.left l.count l.base

abbrev pub decreases-loop-status : goal.decreases-loop-status
decreases-loop-status l = 5 - l.count
