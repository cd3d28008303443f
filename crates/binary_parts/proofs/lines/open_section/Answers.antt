use Rattle.std.proofs.lemmas.Result.{err_from_is_err_and}
use native.Mathlib.Omega.{arith}
use mathlib.Core.Path.{refl, sym, ◌∙◌}
use mathlib.Core.List.{[], ◌∷◌, ◌++◌}
use Rattle.binary_parts.proofs.SoFar.{so-far-none, so-far-altered, so-far-full, so-far-less, so-far-room, so-far-value, so-far-few, so-far-noted, so-far-unnoted}
use Rattle.numbers.proofs.IntegerLaws.{int-within}
use Rattle.binary.specs.Reader.{cursor}
use Rattle.binary_parts.proofs.Places.{integer-few}
use Rattle.binary_parts.proofs.Turns.{lined-next, lined-refused, open-cut, open_done, open_full, open-wrong, open_next}
use Rattle.binary_parts.proofs.Sections.{gathered-open, open-no}
use Rattle.binary_parts.proofs.lines.open_section.Goals as goal

pub loop-n-init : goal.loop-n-init
loop-n-init c = ([], so-far-none c.requires.2 c.no_notes-notes.ensures, c.requires.0, refl, c.requires.4)

pub returns-in_default : goal.returns-in_default
returns-in_default c = open-no _ _ _ c.requires.3 (c.loop-n.invariant.3 ∙ open-cut _ c.args.s.now c.loop-n.i _ _ _ (sym c.in_default.ensures.0)) c.at.ensures (so-far-altered c.loop-n.invariant.1)

pub overflow_add-sum : goal.overflow_add-sum
overflow_add-sum c = omega (arith, integer-few c.args.s.now (cursor c.loop-n.i c.loop-n.longs) c.loop-n.invariant.4 (sym c.in-Some.ensures.0), int-within c.args.s.now c.loop-n.i (sym c.in-Some.ensures.0), c.requires.1)

pub returns-then-n-eq0 : goal.returns-then-n-eq0
returns-then-n-eq0 c = gathered-open _ _ _ c.requires.3 (c.loop-n.invariant.3 ∙ open_done _ c.args.s.now c.loop-n.i _ _ _ (sym c.in-Some.ensures.0) c.if-n-eq0.true) (rw (← c.loop-n.invariant.1.count, c.loop-n.invariant.1.notes), c.loop-n.invariant.1.gathered, record { end = refl; within = (int-within c.args.s.now c.loop-n.i (sym c.in-Some.ensures.0)).1; left = refl; counted = integer-few c.args.s.now (cursor c.loop-n.i c.loop-n.longs) c.loop-n.invariant.4 (sym c.in-Some.ensures.0) })

pub after_name_length-requires : goal.after_name_length-requires
after_name_length-requires c = ((int-within c.args.s.now c.loop-n.i (sym c.in-Some.ensures.0)).1, omega (arith, c.requires.1), so-far-room c.loop-n.invariant.1 (sym c.fits.ensures ∙ c.if-not-fits.false) c.requires.2, omega (arith, integer-few c.args.s.now (cursor c.loop-n.i c.loop-n.longs) c.loop-n.invariant.4 (sym c.in-Some.ensures.0)))

pub returns-in_err-line : goal.returns-in_err-line
returns-in_err-line c = let p = err_from_is_err_and c.from_residual.result c.from_residual.ensures.1 in rw (p.1, p.2) (open-no _ _ _ c.requires.3 (c.loop-n.invariant.3 ∙ open-wrong _ c.args.s.now c.loop-n.i _ _ _ (sym c.in-Some.ensures.0) c.if-n-eq0.false (so-far-few c.loop-n.invariant.1 (sym c.fits.ensures ∙ c.if-not-fits.false)) (lined-refused c.in_err-line.ensures refl).0) refl (rw (lined-refused c.in_err-line.ensures refl).1 (so-far-altered c.loop-n.invariant.1)))

pub store_connection-requires : goal.store_connection-requires
store_connection-requires c = (so-far-value c.loop-n.invariant.1 (sym c.fits.ensures ∙ c.if-not-fits.false) c.requires.2, omega (arith, c.requires.2, c.after_name_length.auto, (so-far-altered c.loop-n.invariant.1).size))

pub loop-n-preserved-then-is_noted : goal.loop-n-preserved-then-is_noted
loop-n-preserved-then-is_noted c = let f = lined-next c.in_ok-line.ensures refl in (c.loop-n.invariant.0 ++ f.line ∷ [], so-far-noted c.loop-n.invariant.1 (sym c.fits.ensures ∙ c.if-not-fits.false) c.requires.2 f (omega arith) c.note-notes.ensures c.store_connection.ensures, f.within, c.loop-n.invariant.3 ∙ open_next _ c.args.s.now c.loop-n.i _ _ _ (sym c.in-Some.ensures.0) c.if-n-eq0.false (so-far-few c.loop-n.invariant.1 (sym c.fits.ensures ∙ c.if-not-fits.false)) _ _ (omega (arith, so-far-less c.loop-n.invariant.1 (sym c.fits.ensures ∙ c.if-not-fits.false))) f.is, omega (arith, f.few))

pub loop-n-preserved : goal.loop-n-preserved
loop-n-preserved c = let f = lined-next c.in_ok-line.ensures refl in (c.loop-n.invariant.0 ++ f.line ∷ [], so-far-unnoted c.loop-n.invariant.1 (sym c.fits.ensures ∙ c.if-not-fits.false) c.requires.2 f (sym c.is_noted.ensures ∙ c.if-is_noted.false), f.within, c.loop-n.invariant.3 ∙ open_next _ c.args.s.now c.loop-n.i _ _ _ (sym c.in-Some.ensures.0) c.if-n-eq0.false (so-far-few c.loop-n.invariant.1 (sym c.fits.ensures ∙ c.if-not-fits.false)) _ _ (omega (arith, so-far-less c.loop-n.invariant.1 (sym c.fits.ensures ∙ c.if-not-fits.false))) f.is, omega (arith, f.few))

pub returns-then-not-fits : goal.returns-then-not-fits
returns-then-not-fits c = open-no _ _ _ c.requires.3 (c.loop-n.invariant.3 ∙ open_full _ c.args.s.now c.loop-n.i _ _ _ (sym c.in-Some.ensures.0) c.if-n-eq0.false (so-far-full c.loop-n.invariant.1 (sym c.fits.ensures ∙ c.if-not-fits.true))) c.at-then-not-fits.ensures (so-far-altered c.loop-n.invariant.1)
