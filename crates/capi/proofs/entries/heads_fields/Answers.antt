use native.Mathlib.Omega.{arith}
use Rattle.capi.specs.Entries.{heads_fields}
use Rattle.capi.proofs.entries.heads_fields.Goals as goal

pub returns : goal.returns
unfolding heads_fields
returns c = (omega (arith, c.wide-a.ensures, c.wide-b.ensures, c.wide-c.ensures, c.wide-d.ensures), omega (arith, c.wide-a.ensures, c.wide-b.ensures, c.wide-c.ensures, c.wide-d.ensures))
