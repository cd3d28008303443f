-- What one octet of a line says.
use Prim.Native.Nat.{ℕ, ◌+◌, ◌-◌, ◌<◌, ◌≤◌}
use mathlib.Core.Path.{◌≡◌, refl, subst}
use mathlib.Core.Bool.{Bool, true, false, cond}
use native.Mathlib.Omega.{arith}
use borrow.Author.Tests.{eqb-true, eqb-false, ltb-true, ltb-false}
use lib.Dec.{eqb, ltb}
use Rattle.script.specs.Script.{cr_state}
use Rattle.step_lines.specs.Stepping.{line_step}
use Rattle.step_lines.specs.declared.LineStep.{LineStep}
use Rattle.step_lines.specs.declared.LineStep.TheVariants.{Goes, Whole, Bad, Long}

abbrev pub Tells : ℕ → ℕ → ℕ → ℕ → LineStep → Type 0
Tells h n st b (Goes c) = (b ≡ 10 → ⊥) × (h + 1 < n) × (c ≡ cr_state st b)
Tells h n st b Whole = (b ≡ 10) × (st ≡ 1)
Tells h n st b Bad = (b ≡ 10) × (st ≡ 1 → ⊥)
Tells h n st b Long = (b ≡ 10 → ⊥) × (n ≤ h + 1)

tells : (h n st b : ℕ) → Tells h n st b (line_step h n st b)
unfolding line_step
tells h n st b = go (eqb b 10) (eqb st 1) (ltb h n) (ltb 1 (n - h)) refl refl refl refl
  where
    go : (x y z t : Bool) → eqb b 10 ≡ x → eqb st 1 ≡ y → ltb h n ≡ z → ltb 1 (n - h) ≡ t
        → Tells h n st b (cond x (cond y Whole Bad) (cond z (cond t (Goes (cr_state st b)) Long) Long))
    go true true z t p q r u = (eqb-true b 10 p, eqb-true st 1 q)
    go true false z t p q r u = (eqb-true b 10 p, eqb-false st 1 q)
    go false y true true p q r u = (eqb-false b 10 p, omega (arith, ltb-true h n r, ltb-true 1 (n - h) u), refl)
    go false y true false p q r u = (eqb-false b 10 p, omega (arith, ltb-false 1 (n - h) u))
    go false y false t p q r u = (eqb-false b 10 p, omega (arith, ltb-false h n r))

pub told : (h n st b : ℕ) (x : LineStep) → line_step h n st b ≡ x → Tells h n st b x
told h n st b x e = subst (Tells h n st b) e (tells h n st b)
