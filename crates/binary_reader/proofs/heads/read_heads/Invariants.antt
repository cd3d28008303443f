use Prim.Native.Nat.{◌-◌}
use mathlib.Core.Path.{◌≡◌}
use lib.ListN.{length, drop}
use Rattle.binary.specs.Reader.{cursor}
use Rattle.binary.specs.Read.{response_message}
use Rattle.binary_reader.proofs.HeadTurns.{HeadsTo}
use Rattle.binary_reader.proofs.heads.read_heads.Given as goal

abbrev pub invariant-loop-status : goal.invariant-loop-status
invariant-loop-status l = (length l.headers ≡ length l.initial.headers) × (length l.informational ≡ length l.initial.informational) × HeadsTo (λ told. response_message told l.form (cursor l.initial.i l.initial.longs) (drop l.initial.i l.s)) l.form l.s l.initial.headers l.headers l.initial.informational l.informational l.i l.count l.base l.longs

abbrev pub decreases-loop-status : goal.decreases-loop-status
decreases-loop-status l = 5 - l.count
