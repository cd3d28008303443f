use native.Mathlib.Omega.{arith}
use mathlib.Core.Path.{refl, sym}
use Rattle.numbers.proofs.IntegerLaws.{long-once, int-within}
use Rattle.binary_parts.proofs.Rest.{lined-as, lined-no}
use Rattle.binary_parts.proofs.Turns.{known-cut, known-none, known-rest}
use Rattle.binary_parts.proofs.lines.known_line.Goals as goal

pub returns-in_default : goal.returns-in_default
returns-in_default c = lined-no (known-cut _ _ c.args.s.now _ _ (sym c.in_default.ensures.0)) c.at.ensures

pub returns-then-n-eq0 : goal.returns-then-n-eq0
returns-then-n-eq0 c = lined-no (known-none _ _ c.args.s.now _ _ (sym c.in-Some.ensures.0) c.if-n-eq0.true) c.at-then-n-eq0.ensures

pub overflow_add-long : goal.overflow_add-long
overflow_add-long c = omega (arith, c.requires.3, c.requires.1, long-once _ c.in-Some.ensures.1 refl, int-within c.args.s.now c.args.at (sym c.in-Some.ensures.0))

pub after_name_length-requires : goal.after_name_length-requires
after_name_length-requires c = (omega (arith, int-within c.args.s.now c.args.at (sym c.in-Some.ensures.0)), c.requires.1, c.requires.2, omega (arith, c.requires.3, long-once _ c.in-Some.ensures.1 refl, int-within c.args.s.now c.args.at (sym c.in-Some.ensures.0)))

pub returns : goal.returns
returns c = lined-as (known-rest _ _ c.args.s.now _ _ (sym c.in-Some.ensures.0) c.if-n-eq0.false) c.after_name_length.ensures
