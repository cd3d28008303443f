use mathlib.Core.Path.{ap}
use Prim.Native.Nat.{ℕ}
use native.Mathlib.Omega.{arith}
use Rattle.numbers.specs.Integer.{int_len}
use Rattle.output.proofs.Room.{puts}
use Rattle.binary_writer.proofs.Steps.{header-sum, put-header}
use Rattle.binary_writer.proofs.put.put_header.Goals as goal

pub returns : goal.returns
returns c = let e = header-sum c.args.stated c.args.ranges.now c.args.k c.args.n c.stated_size.ensures.0 c.fields_size.ensures.0 in
    let i = ap (λ (n : ℕ). int_len n) e in
    let p = puts c.put_int-a.ensures (omega (arith, c.requires.1, i)) in
    put-header c.args.s.now c.args.ranges.now c.args.k c.args.n c.args.stated e p c.put_stated-b.ensures c.put_fields.ensures
