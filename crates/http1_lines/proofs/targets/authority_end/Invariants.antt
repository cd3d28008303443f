use Prim.Native.Nat.{◌+◌}
use mathlib.Core.Path.{◌≡◌}
use lib.ListN.{drop}
use Rattle.octets.specs.Text.{span_len}
use Rattle.http1_lines.specs.Target.{is_before_path}
use Rattle.http1_lines.proofs.targets.authority_end.Given as goal

abbrev pub invariant-loop-i : goal.invariant-loop-i
invariant-loop-i l = l.from + span_len is_before_path (drop l.from l.w) ≡ l.i + span_len is_before_path (drop l.i l.w)
