use native.Mathlib.Omega.{arith}
use mathlib.Core.Path.{refl}
use Rattle.listing.proofs.Laws.{served-is}
use Rattle.lister.proofs.fill.Goals as goal

pub returns-in-Ok-clause-in_bounds : goal.returns-in-Ok-clause-in_bounds
returns-in-Ok-clause-in_bounds c = omega (arith, served-is refl c.in-Ok.ensures, c.listing.auto.out)
