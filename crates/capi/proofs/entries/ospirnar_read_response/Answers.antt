use native.Mathlib.Omega.{arith}
use mathlib.Core.Path.{refl}
use Rattle.capi.specs.Entries.{no_heads}
use Rattle.capi.proofs.entries.ospirnar_read_response.Goals as goal

pub enter_response-requires : goal.enter_response-requires
unfolding no_heads
enter_response-requires c = (omega arith, omega arith, omega arith, omega arith, refl)
