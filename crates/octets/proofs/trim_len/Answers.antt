use Prim.Native.Nat.{◌+◌, ◌-◌}
use mathlib.Core.Path.{◌≡◌, sym, ◌∙◌}
use native.Mathlib.Omega.{arith}
use Rattle.octets.specs.Class.{is_blank}
use Rattle.octets.specs.Text.{trim_back}
use Rattle.octets.proofs.Texts.{trim-step, trim-none}
use Rattle.octets.proofs.trim_len.Goals as goal

pub loop-i-preserved : goal.loop-i-preserved
loop-i-preserved c = search (trim-step, ← c.is_blank.ensures, c.if-not-is_blank.false, c.loop-i.invariant)

pub returns-then-not-is_blank : goal.returns-then-not-is_blank
returns-then-not-is_blank c =
    let e : trim_back is_blank c.args.s.now c.loop-i.i ≡ c.loop-i.i = search (trim-step, ← c.is_blank.ensures, c.if-not-is_blank.true) in
    let d : c.loop-i.i - 1 + 1 ≡ c.loop-i.i = omega arith in
    (d ∙ sym (c.loop-i.invariant ∙ e), omega arith)

pub returns : goal.returns
returns c =
    let d : 0 ≡ c.loop-i.i = omega arith in
    (d ∙ sym (c.loop-i.invariant ∙ trim-none is_blank c.args.s.now c.loop-i.i (omega arith)), omega arith)
