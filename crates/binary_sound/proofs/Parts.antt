-- What parts and control data give wherever they stand.
use Prim.Native.Nat.{ℕ, ◌+◌, ◌≤◌}
use mathlib.Core.Path.{◌≡◌, refl, subst}
use mathlib.Core.Bool.{Bool, true, false, cond}
use mathlib.Core.List.{List}
use native.Mathlib.Omega.{arith}
use borrow.Author.Tests.{leb-true}
use lib.Dec.{leb}
use lib.ListN.{length}
use Rattle.octets.specs.Ascii.{ascii}
use Rattle.octets.specs.Text.{same_text}
use Rattle.octets.specs.Limits.{method_most, authority_most, path_most}
use Rattle.octets.specs.Refusals.{not_supported}
use Rattle.script.specs.Do.{Piece, good, wrong}
use Rattle.messages.specs.Control.{method_verdict, path_verdict, authority_verdict, is_options, Verdict, passed}
use Rattle.messages.specs.Valid.{is_scheme}
use Rattle.binary.specs.declared.Cursor.{Cursor}
use Rattle.binary.specs.Read.{part, part_within, ruled_part, scheme_of, scheme_part, RequestControl, after_scheme, request_control}
use Rattle.sound.specs.Placed.{Lying}
use Rattle.binary_sound.proofs.Judgement.{Every, stops-give, every-refuse, every_here, every-tell, every-rule, stops-if, every-integer, every-octets, stops-bind, stops_then}

-- what holds of a part of at most so many octets, by a rule
pub record RuledAt (s : List ℕ) (most : ℕ) (verdict : List ℕ → Verdict) (p : Piece) : Type 0 where
  pub lies : Lying s p
  pub short : length p.text ≤ most
  pub keeps : verdict p.text ≡ passed

pub record ControlAt (s : List ℕ) (q : RequestControl) : Type 0 where
  pub method : RuledAt s method_most method_verdict q.method
  pub scheme : is_scheme q.scheme ≡ true
  pub authority : RuledAt s authority_most authority_verdict q.authority
  pub path : RuledAt s path_most (path_verdict (is_options q.method.text)) q.path

scheme-is : (w : List ℕ) (p v : ℕ) → scheme_of w p ≡ good v → is_scheme v ≡ true
unfolding scheme_of is_scheme
scheme-is w p v e = on (same_text w (ascii "http")) (same_text w (ascii "https")) e
  where
    on : (a b : Bool) → cond a (good 0) (cond b (good 1) (wrong not_supported p)) ≡ good v → is_scheme v ≡ true
    on true b g = let z : 0 ≡ v = cc in subst (λ (n : ℕ). is_scheme n ≡ true) z refl
    on false true g = let z : 1 ≡ v = cc in subst (λ (n : ℕ). is_scheme n ≡ true) z refl
    on false false g = let z : ◌≡◌ {A = ℕ} 0 1 = cc in absurd (omega arith)

-- a part that lies in the input and ends where the cursor is; no more integers are counted than octets stand before it
pub record PartAt (s : List ℕ) (c : Cursor) (p : Piece) : Type 0 where
  pub lies : Lying s p
  pub ends : c.at ≡ p.place + length p.text
  pub few : c.long ≤ p.place

module _ {s : List ℕ} {e : ℕ} where
  pub every-part : {at : Cursor} → Every s e (λ n p. PartAt s n p) at part
  unfolding part
  every-part =
      stops-bind _ (every_here (stops-bind _ (every-integer _ _ λ i n.
      every-octets n _ _ λ w l y f. record { lies = y; ends = omega (arith, l); few = f })))

  pub every-within : {at : Cursor} (most : ℕ) → Every s e (λ n p. Lying s p × (length p.text ≤ most)) at (part_within most)
  unfolding part_within
  every-within most =
      stops-bind _ (every_here (stops-bind _ (every-integer _ _ λ i n.
      stops-if (leb n most)
      (λ h. every-octets n _ _ λ w l y f. (y, omega (arith, leb-true n most h)))
      (λ h. every-refuse))))

  pub every-ruled : {at : Cursor} (most : ℕ) (verdict : List ℕ → Verdict) → Every s e (λ n p. RuledAt s most verdict p) at (ruled_part most verdict)
  unfolding ruled_part
  every-ruled most verdict =
      stops-bind _ (every_here (stops_then _ (every-within most) λ i w g.
      every-rule (verdict w.text) _ w λ h. record { lies = g.0; short = g.1; keeps = h }))

  every-scheme : {at : Cursor} → Every s e (λ n v. is_scheme v ≡ true) at scheme_part
  unfolding scheme_part
  every-scheme = stops-bind _ (every_here (stops_then _ every-part λ i w g. every-tell (scheme_of w.text _) λ v q. scheme-is w.text _ v q))

  pub every-control : {at : Cursor} → Every s e (λ n q. ControlAt s q) at request_control
  unfolding request_control after_scheme
  every-control =
      stops_then _ (every-ruled method_most method_verdict) λ i m a.
      stops_then _ every-scheme λ j v b.
      stops_then _ (every-ruled authority_most authority_verdict) λ k h c.
      stops_then _ (every-ruled path_most (path_verdict (is_options m.text))) λ l p d.
      stops-give (record { method = a; scheme = b; authority = c; path = d })
