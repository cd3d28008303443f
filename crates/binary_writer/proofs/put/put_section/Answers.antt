use mathlib.Core.Path.{ap}
use Prim.Native.Nat.{ℕ}
use native.Mathlib.Omega.{arith}
use Rattle.numbers.specs.Integer.{int_len}
use Rattle.output.proofs.Room.{puts}
use Rattle.binary_writer.proofs.Steps.{put-section}
use Rattle.binary_writer.proofs.put.put_section.Goals as goal

pub returns : goal.returns
returns c = let p = puts c.put_int-a.ensures (omega (arith, c.requires.1, ap (λ (n : ℕ). int_len n) c.fields_size-size.ensures.0)) in
    put-section c.args.s.now c.args.ranges.now c.args.k c.args.n c.fields_size-size.ensures.0 p c.put_fields.ensures
