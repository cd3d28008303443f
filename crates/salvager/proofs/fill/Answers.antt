use native.Mathlib.Omega.{arith}
use mathlib.Core.Path.{refl}
use Rattle.salvager.proofs.Laws.{not-refused, printed}
use Rattle.salvager.proofs.fill.Goals as goal

pub returns-in-Err-clause-out_after : goal.returns-in-Err-clause-out_after
returns-in-Err-clause-out_after c = not-refused c.args.input.now c.requires c.in-Err.ensures _ refl

pub returns-in-Ok-clause-in_bounds : goal.returns-in-Ok-clause-in_bounds
returns-in-Ok-clause-in_bounds c = omega (arith, (printed c.args.input.now c.requires c.in-Ok.ensures refl).0)

pub returns-in-Ok-clause-out_after : goal.returns-in-Ok-clause-out_after
returns-in-Ok-clause-out_after c = (printed c.args.input.now c.requires c.in-Ok.ensures refl).1
