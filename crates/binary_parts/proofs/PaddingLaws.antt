-- Padding, octet by octet.
use Prim.Native.Nat.{ℕ, ◌+◌, ◌<◌, ◌≤◌}
use mathlib.Core.Path.{◌≡◌, refl, sym, ap, ◌∙◌, subst}
use mathlib.Core.Bool.{Bool, true, false, cond}
use mathlib.Core.List.{List, []}
use native.Mathlib.Omega.{arith}
use native.Mathlib.Numerals.{add-one}
use lib.Dec.{eqb}
use lib.ListN.{length, get_or, drop, drop_of_length-le}
use lib.Seq.{drop-cons}
use Rattle.std.proofs.Common.{Result, Ok, Err}
use Rattle.octets.specs.Refusals.{bad_padding, refused_at}
use Rattle.octets.specs.declared.Refused.{Refused}
use Rattle.binary.specs.declared.Cursor.{Cursor}
use Rattle.binary.specs.Reader.{Got, got, no, cursor}
use Rattle.binary.specs.declared.Form.{Form}
use Rattle.binary.specs.Read.{padding}
use Rattle.binary_parts.specs.Content.{PaddingSays, Padded}

padded-as : {s : List ℕ} {x y : Got ℕ} {r : Result (Unit {0}) Refused} → x ≡ y → Padded s y r → Padded s x r
padded-as {s} {r = r} e h = subst (λ (z : Got ℕ). Padded s z r) (sym e) h

module _ (form : Form) (s : List ℕ) (i c : ℕ) {x : Got ℕ} (e : x ≡ padding form (cursor i c) (drop i s)) where
  module _ (h : i < length s) {b : Bool} (t : b ≡ cond form.padded (eqb (get_or s i 0) 0) false) where
    pub padding-zero : b ≡ true → x ≡ padding form (cursor (i + 1) c) (drop (i + 1) s)
    unfolding padding
    padding-zero z = e ∙ rw (drop-cons s i 0 h, ← t, z, add-one i)

    pub padding-other : {f : Refused} → f ≡ refused_at bad_padding i → b ≡ false → Padded s x (Err f)
    unfolding padding
    padding-other q z = padded-as {y = no bad_padding i} (e ∙ rw (drop-cons s i 0 h, ← t, z)) (record { says = (rw q, refl) })

  pub padding-end : i ≤ length s → length s ≤ i → Padded s x (Ok tt)
  unfolding padding
  padding-end g h = padded-as {y = got i (cursor i c) []} (e ∙ rw (drop_of_length-le s h)) (record { says = (refl, omega arith) })

-- ---- what the caller learns

pub record PaddingDone (s : List ℕ) (x : Got ℕ) : Type 0 where
  pub value : ℕ
  pub end : Cursor
  pub rest : List ℕ
  pub taken : x ≡ got value end rest
  pub whole : end.at ≡ length s

module _ {s : List ℕ} {x : Got ℕ} {r : Result (Unit {0}) Refused} (h : Padded s x r) where
  pub padding-bad : {e : Refused} → r ≡ Err e → x ≡ no e.number e.place
  padding-bad {e} q = go x h.says
    where
      go : (y : Got ℕ) → PaddingSays s y r → y ≡ no e.number e.place
      go (got z i l) d = let f = d.0 in cc
      go (no n k) d = let f = d.0 in let z : refused_at n k ≡ e = cc in ap (λ (f : Refused). no f.number f.place) z

  pub padding-clean : {u : Unit {0}} → r ≡ Ok u → PaddingDone s x
  padding-clean e = go x h.says
    where
      go : (y : Got ℕ) → PaddingSays s y r → PaddingDone s y
      go (got z i l) q = record { value = z; end = i; rest = l; taken = refl; whole = q.1 }
      go (no n k) q = let d = q.0 in let z : ◌≡◌ {A = ℕ} 0 1 = cc in absurd (omega arith)
