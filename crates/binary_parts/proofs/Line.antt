-- A field line whose halves are in, as the code judges and stores it.
use Prim.Native.Nat.{ℕ}
use mathlib.Core.Path.{◌≡◌, refl, sym, ◌∙◌, subst}
use mathlib.Core.List.{List, [], ◌∷◌, map}
use mathlib.Core.Bool.{Bool, true, false, cond}
use lib.ListN.{length}
use Rattle.octets.specs.Text.{lower_of}
use Rattle.std.proofs.Common.{Result, Ok, Err}
use Rattle.octets.specs.Refusals.{bad_syntax, refused_at}
use Rattle.octets.specs.declared.Refused.{Refused}
use Rattle.script.specs.Do.{Piece, piece, Judged, good, wrong}
use Rattle.messages.specs.Message.{FieldRead}
use Rattle.messages.specs.Names.{kind_of, line_kind, is_end_to_end}
use Rattle.messages.specs.Control.{is_lower_name}
use Rattle.messages.specs.declared.Kind.{Kind}
use Rattle.ranges.specs.Ranges.{StoredIf}
use Rattle.binary.specs.declared.Form.{Form}
use Rattle.binary.specs.Read.{is_line_value, judged_line}
use Rattle.binary_parts.specs.Section.{JudgedSays, JudgedLine}
use Rattle.binary_parts.specs.declared.LineRead.{LineRead}

-- a line is judged by one test of both halves
line_as : (form : Form) (p : ℕ) (n v : Piece) (y : Bool) → y ≡ cond (is_lower_name n.text) (is_line_value form v.text) false
    → judged_line form p n v ≡ cond y (good (record { name = n; value = v; place = p })) (wrong bad_syntax p)
unfolding judged_line
line_as form p n v y e = rw e (go (is_lower_name n.text) (is_line_value form v.text) _)
  where
    go : (a b : Bool) (x : Judged FieldRead) → cond a (cond b x (wrong bad_syntax p)) (wrong bad_syntax p) ≡ cond (cond a b false) x (wrong bad_syntax p)
    go true b x = refl
    go false b x = refl

judged-as : {i j : Judged FieldRead} {end : ℕ} {host : Bool} {k long : ℕ} {o o' : List ℕ} {r : Result LineRead Refused}
    → i ≡ j → JudgedSays j end host k long o o' r → JudgedLine i end host k long o o' r
judged-as {end = end} {host = host} {k = k} {long = long} {o = o} {o' = o'} {r = r} e h =
    record { says = subst (λ (z : Judged FieldRead). JudgedSays z end host k long o o' r) (sym e) h }

module _ (form : Form) (p n v : ℕ) (name value : List ℕ) {y : Bool} (e : y ≡ cond (is_lower_name name) (is_line_value form value) false) where
  -- a line that is none
  pub line-wrong : {end : ℕ} {host : Bool} {k long : ℕ} {o : List ℕ} {f : Refused} → f ≡ refused_at bad_syntax p → y ≡ false
      → JudgedLine (judged_line form p (piece n name) (piece v value)) end host k long o o (Err f)
  line-wrong q h = judged-as {j = wrong bad_syntax p} (line_as form p (piece n name) (piece v value) y e ∙ rw h refl) (rw q, refl)

  line : FieldRead
  line = record { name = piece n name; value = piece v value; place = p }

  pub line-good : {end : ℕ} {host : Bool} {k long : ℕ} {o o' : List ℕ} {kind : Kind} {t : Bool} {r : ℕ} → y ≡ true
      → kind ≡ kind_of (map lower_of name) → t ≡ is_end_to_end host kind → StoredIf t k (n ∷ length name ∷ v ∷ length value ∷ []) o o' r
      → JudgedLine (judged_line form p (piece n name) (piece v value)) end host k long o o' (Ok (record { end = end; kept = r; kind = kind; place = p; len = length value; long = long }))
  unfolding line_kind line
  line-good {r = r} h ek et u =
      judged-as {j = good line} (line_as form p (piece n name) (piece v value) y e ∙ rw h refl) (r, rw (← ek) refl, rw (← ek, ← et) u)
