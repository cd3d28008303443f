use native.Mathlib.Omega.{arith}
use mathlib.Core.Path.{sym, ◌∙◌}
use Rattle.numbers.proofs.IntegerLaws.{int-within}
use Rattle.messages.proofs.Verdicts.{status-rule}
use Rattle.binary_parts.proofs.Places.{integer-few}
use Rattle.binary_reader.proofs.HeadLaws.{next-cut, next-wrong, next-full, next-informational, next-final}
use Rattle.binary_reader.proofs.heads.next_head.Goals as goal

pub returns-in_default : goal.returns-in_default
returns-in_default c = next-cut c.args.s.now _ c.args.i _ _ _ _ c.at.ensures (sym c.in_default.ensures.0)

pub overflow_add-behind : goal.overflow_add-behind
overflow_add-behind c = omega (arith, integer-few c.args.s.now c.args.i c.requires.3 (sym c.in-Some.ensures.0), int-within c.args.s.now c.args.i.at (sym c.in-Some.ensures.0), c.requires.0)

pub overflow_cast-status : goal.overflow_cast-status
overflow_cast-status c = omega (arith, status-rule _ (sym c.in-Ok.ensures))

pub after_informational_status-requires : goal.after_informational_status-requires
after_informational_status-requires c = ((int-within c.args.s.now c.args.i.at (sym c.in-Some.ensures.0)).1, c.requires.0, c.requires.1, integer-few c.args.s.now c.args.i c.requires.3 (sym c.in-Some.ensures.0))

pub after_final_status-requires : goal.after_final_status-requires
after_final_status-requires c = ((int-within c.args.s.now c.args.i.at (sym c.in-Some.ensures.0)).1, c.requires.0, c.requires.1, record { verdict = sym c.in-Ok.ensures; last = sym c.is_informational.ensures ∙ c.if-not-is_informational.true }, integer-few c.args.s.now c.args.i c.requires.3 (sym c.in-Some.ensures.0))

pub returns-in-Err : goal.returns-in-Err
returns-in-Err c = next-wrong c.args.s.now _ c.args.i _ _ _ _ (sym c.in-Some.ensures.0) c.at-in-Err.ensures (sym c.in-Err.ensures)

pub returns-then-not-is_informational : goal.returns-then-not-is_informational
returns-then-not-is_informational c = next-final c.args.s.now _ c.args.i _ _ _ _ (sym c.in-Some.ensures.0) (sym c.in-Ok.ensures) (sym c.is_informational.ensures ∙ c.if-not-is_informational.true) c.after_final_status.ensures

pub returns-else-fits : goal.returns-else-fits
returns-else-fits c = next-full c.args.s.now _ c.args.i _ _ _ _ (sym c.in-Some.ensures.0) (sym c.in-Ok.ensures) c.at-else-fits.ensures (sym c.is_informational.ensures ∙ c.if-not-is_informational.false) (sym c.fits.ensures ∙ c.if-fits.false)

pub returns-then-fits : goal.returns-then-fits
returns-then-fits c = next-informational c.args.s.now _ c.args.i _ _ _ _ (sym c.in-Some.ensures.0) (sym c.in-Ok.ensures) (sym c.is_informational.ensures ∙ c.if-not-is_informational.false) (sym c.fits.ensures ∙ c.if-fits.true) c.after_informational_status.ensures
