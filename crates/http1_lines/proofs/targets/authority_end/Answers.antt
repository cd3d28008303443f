use Rattle.http1_lines.proofs.RequestTargets.{authority-here, authority-on, authority-all}
use mathlib.Core.Path.{◌≡◌, sym, ◌∙◌}
use native.Mathlib.Omega.{arith}
use lib.ListN.{length}
use Prim.Native.Nat.{◌-◌}
use Rattle.http1_lines.proofs.targets.authority_end.Goals as goal

pub returns-then-not-is_before_path : goal.returns-then-not-is_before_path
returns-then-not-is_before_path c =
    (authority-here c.args.w.now c.args.from c.loop-i.i c.loop-i.invariant c.loop-i-test.true (sym c.is_before_path.ensures ∙ c.if-not-is_before_path.true), omega arith, omega arith)

pub loop-i-preserved : goal.loop-i-preserved
loop-i-preserved c = authority-on c.args.w.now c.args.from c.loop-i.i c.loop-i.invariant c.loop-i-test.true (sym c.is_before_path.ensures ∙ c.if-not-is_before_path.false)

pub returns : goal.returns
returns c =
    let e : c.loop-i.i ≡ length c.args.w.now = omega arith in
    (sym e ∙ authority-all c.args.w.now c.args.from c.loop-i.i c.loop-i.invariant c.loop-i-test.false, omega arith, omega arith)
