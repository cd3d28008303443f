use Rattle.std.proofs.lemmas.Result.{err_from_is_err_and}
use native.Mathlib.Omega.{arith}
use mathlib.Core.Path.{refl, sym, ◌∙◌}
use mathlib.Core.List.{[], ◌∷◌, ◌++◌}
use Rattle.binary_parts.proofs.SoFar.{so-far-none, so-far-altered, so-far-full, so-far-less, so-far-room, so-far-value, so-far-few, so-far-noted, so-far-unnoted}
use Rattle.binary_parts.proofs.Turns.{lined-next, lined-refused, known-done, known-full, known-wrong, known_next}
use Rattle.binary_parts.proofs.Sections.{bodied-as, bodied-no, known_start}
use Rattle.binary_parts.proofs.lines.known_lines.Goals as goal

pub loop-i-init : goal.loop-i-init
loop-i-init c = ([], so-far-none c.requires.1 c.no_notes-notes.ensures, omega arith, known_start _ _ _ _ _, omega (arith, c.requires.2))

pub returns-then-s-i : goal.returns-then-s-i
returns-then-s-i c = bodied-as (c.loop-i.invariant.3 ∙ known-done _ _ c.args.s.now c.loop-i.i _ _ _ c.if-s-i.true) (rw (← c.loop-i.invariant.1.count, c.loop-i.invariant.1.notes), c.loop-i.invariant.1.gathered, omega (arith, c.loop-i.invariant.4, c.loop-i.invariant.2))

pub known_line-requires : goal.known_line-requires
known_line-requires c = (c.loop-i.invariant.2, c.requires.0, so-far-room c.loop-i.invariant.1 (sym c.fits.ensures ∙ c.if-not-fits.false) c.requires.1, c.loop-i.invariant.4)

pub returns-in_err-line : goal.returns-in_err-line
returns-in_err-line c = let p = err_from_is_err_and c.from_residual.result c.from_residual.ensures.1 in rw (p.1, p.2) (bodied-no (c.loop-i.invariant.3 ∙ known-wrong _ _ c.args.s.now c.loop-i.i _ _ _ c.if-s-i.false (so-far-few c.loop-i.invariant.1 (sym c.fits.ensures ∙ c.if-not-fits.false)) (lined-refused c.in_err-line.ensures refl).0) refl (rw (lined-refused c.in_err-line.ensures refl).1 (so-far-altered c.loop-i.invariant.1)))

pub store_connection-requires : goal.store_connection-requires
store_connection-requires c = (so-far-value c.loop-i.invariant.1 (sym c.fits.ensures ∙ c.if-not-fits.false) c.requires.1, omega (arith, (so-far-altered c.loop-i.invariant.1).size))

pub loop-i-preserved-then-is_noted : goal.loop-i-preserved-then-is_noted
loop-i-preserved-then-is_noted c = let f = lined-next c.in_ok-line.ensures refl in (c.loop-i.invariant.0 ++ f.line ∷ [], so-far-noted c.loop-i.invariant.1 (sym c.fits.ensures ∙ c.if-not-fits.false) c.requires.1 f refl c.note-notes.ensures c.store_connection.ensures, f.within, c.loop-i.invariant.3 ∙ known_next _ _ c.args.s.now c.loop-i.i _ _ _ c.if-s-i.false (so-far-few c.loop-i.invariant.1 (sym c.fits.ensures ∙ c.if-not-fits.false)) _ _ (omega (arith, so-far-less c.loop-i.invariant.1 (sym c.fits.ensures ∙ c.if-not-fits.false))) f.is, f.few)

pub loop-i-preserved : goal.loop-i-preserved
loop-i-preserved c = let f = lined-next c.in_ok-line.ensures refl in (c.loop-i.invariant.0 ++ f.line ∷ [], so-far-unnoted c.loop-i.invariant.1 (sym c.fits.ensures ∙ c.if-not-fits.false) c.requires.1 f (sym c.is_noted.ensures ∙ c.if-is_noted.false), f.within, c.loop-i.invariant.3 ∙ known_next _ _ c.args.s.now c.loop-i.i _ _ _ c.if-s-i.false (so-far-few c.loop-i.invariant.1 (sym c.fits.ensures ∙ c.if-not-fits.false)) _ _ (omega (arith, so-far-less c.loop-i.invariant.1 (sym c.fits.ensures ∙ c.if-not-fits.false))) f.is, f.few)

pub returns-then-not-fits : goal.returns-then-not-fits
returns-then-not-fits c = bodied-no (c.loop-i.invariant.3 ∙ known-full _ _ c.args.s.now c.loop-i.i _ _ _ c.if-s-i.false (so-far-full c.loop-i.invariant.1 (sym c.fits.ensures ∙ c.if-not-fits.true))) c.at.ensures (so-far-altered c.loop-i.invariant.1)
