-- What stops a reader, in terms of scripts.
use Rattle.std.proofs.Common.{Result, Ok, Err}
use Prim.Native.Nat.{ℕ}
use mathlib.Core.Path.{◌≡◌, refl, ap, ◌∙◌}
use mathlib.Core.List.{List}
use lib.ListN.{drop}
use Rattle.octets.specs.Refusals.{bad_syntax, too_large, refused_at}
use Rattle.octets.specs.declared.Refused.{Refused}
use Rattle.script.specs.Script.{Answer, Script, need, a_line, run, line_of}
use Rattle.script.specs.Do.{and_then}
use Rattle.script.specs.declared.Line.{Line}
use Rattle.script.specs.declared.Line.TheVariants.{Ends, Bad, Long, More}
use Rattle.script.proofs.Places.{line-more, line-bad, line-long}
use Rattle.messages.specs.declared.Stop.{Stop}
use Rattle.http1_parts.specs.Stops.{stopped, line_ended}

-- equal refusals stop alike
pub refusing : {A : Type 0} {e f : Refused} → e ≡ f → ◌≡◌ {A = Result A Stop} (Err (Stop.Refused e)) (Err (Stop.Refused f))
refusing q = ap (λ (x : Refused). Err (Stop.Refused x)) q

pub stopped-as : {A : Type 0} {d e : Stop} → d ≡ e → ◌≡◌ {A = Answer A} (stopped d) (stopped e)
stopped-as q = ap (λ (x : Stop). stopped x) q

-- what goes on behind a reader that stops
pub and-stopped : {A B : Type 0} (k : ℕ → A → Answer B) (e : Stop) → and_then (stopped e) k ≡ stopped e
and-stopped k (Stop.Refused e) = refl
and-stopped k Stop.More = refl

-- a line's end, or why it has none
pub line-found : (i : ℕ) {next : ℕ} (l : Line) → Ok next ≡ line_ended i l → l ≡ Ends next
line-found i (Ends n) q = cc
line-found i Bad q = cc
line-found i Long q = cc
line-found i More q = cc

module _ {A : Type 0} (n : ℕ) (k : ℕ → List ℕ → Script A) (s : List ℕ) (i : ℕ) where
  pub line-stopped : {e : Stop} → Err e ≡ line_ended i (line_of (drop i s) n i 0) → run (need (a_line n bad_syntax too_large) k) i (drop i s) ≡ stopped e
  line-stopped {e} q = go (line_of (drop i s) n i 0) refl q
    where
      go : (l : Line) → line_of (drop i s) n i 0 ≡ l → Err e ≡ line_ended i l → run (need (a_line n bad_syntax too_large) k) i (drop i s) ≡ stopped e
      go (Ends m) p q = cc
      go Bad p q = let z : Stop.Refused (refused_at bad_syntax i) ≡ e = cc in line-bad n _ _ k s i p ∙ stopped-as z
      go Long p q = let z : Stop.Refused (refused_at too_large i) ≡ e = cc in line-long n _ _ k s i p ∙ stopped-as z
      go More p q = let z : Stop.More ≡ e = cc in line-more n _ _ k s i p ∙ stopped-as z

-- a reader that stops as another does
pub err-of : {A B : Type 0} {d e : Stop} → ◌≡◌ {A = Result A Stop} (Err d) (Err e) → ◌≡◌ {A = Result B Stop} (Err d) (Err e)
err-of {d = d} {e = e} q = let z : d ≡ e = cc in ap (λ (x : Stop). Err x) z
