use native.Mathlib.Omega.{arith}
use mathlib.Core.Path.{refl}
use Rattle.capi.specs.Entries.{no_heads}
use Rattle.capi.proofs.entries.ospirnar_read_binary.Goals as goal

pub enter_binary-requires : goal.enter_binary-requires
unfolding no_heads
enter_binary-requires c = (omega arith, omega arith, omega arith, omega arith, refl)
