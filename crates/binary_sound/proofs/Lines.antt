-- What field lines and sections give wherever they stand.
use Prim.Native.Nat.{ℕ, zero, suc, ◌+◌, ◌<◌}
use mathlib.Core.Path.{◌≡◌, refl, subst}
use mathlib.Core.Bool.{Bool, true, false, cond}
use mathlib.Core.List.{List, [], ◌∷◌, ◌++◌, map}
use native.Mathlib.Omega.{arith}
use borrow.Author.Tests.{leb-false}
use lib.Dec.{leb, eqb}
use lib.ListN.{length}
use Rattle.octets.specs.Limits.{lines_most}
use Rattle.octets.specs.Text.{lower_of}
use Rattle.octets.proofs.Kit.{into}
use Rattle.octets.proofs.Texts.{lower-same}
use Rattle.script.specs.Do.{Piece, good, wrong}
use Rattle.messages.specs.Message.{FieldRead}
use Rattle.messages.specs.Control.{is_lower_name, is_trimmed_value}
use Rattle.messages.proofs.Verdicts.{name-rule}
use Rattle.binary.specs.Reader.{Got, got, no, cursor}
use Rattle.binary.specs.declared.Form.{Form}
use Rattle.binary.specs.declared.Cursor.{Cursor}
use Rattle.binary.specs.Read.{is_line_value, judged_line, known_line, known_lines, on_body, body_lines, known_section, after_name_length, open_lines, section, header_section}
use Rattle.sound.specs.Placed.{Each, Lying}
use Rattle.sound.proofs.Each.{each_snoc}
use Rattle.sound.proofs.Parts.{LineAt, SectionAt, section-none, section-snoc}
use Rattle.binary_sound.specs.Sound.{LowerName}
use Rattle.binary_sound.proofs.Judgement.{Stands, Gets, Every, stops-give, every-refuse, every_here, stops-ended, every-tell, stops-if, every-integer, every-octets, stops-bind, stops_then}
use Rattle.binary_sound.proofs.Parts.{PartAt, every-part}

-- ---- a line

-- a field line that lies in the input s, its name in lower case as it stands
pub record LowerLine (s : List ℕ) (f : FieldRead) : Type 0 where
  pub line : LineAt s f
  pub lower : LowerName f

pub record LinesAt (s : List ℕ) (fs : List FieldRead) : Type 0 where
  pub section : SectionAt s fs
  pub lower : Each LowerName fs

pub lines_none : (s : List ℕ) → LinesAt s []
lines_none s = record { section = section-none s; lower = tt }

lines_snoc : (s : List ℕ) (fs : List FieldRead) (f : FieldRead) → LinesAt s fs → LowerLine s f → length fs < lines_most → LinesAt s (fs ++ f ∷ [])
lines_snoc s fs f h g l = record { section = section-snoc s fs f h.section g.line l; lower = each_snoc LowerName fs f h.lower g.lower }

pub no-wrong : {X : Type 0} {n p : ℕ} {x : X} → wrong n p ≡ good x → ⊥
no-wrong e = let z : ◌≡◌ {A = ℕ} 0 1 = cc in omega arith

-- a value that an edition allows is one
value-trimmed : (form : Form) (v : List ℕ) → is_line_value form v ≡ true → is_trimmed_value v ≡ true
unfolding is_line_value
value-trimmed form v e = on (is_trimmed_value v) _ e
  where
    on : (a b : Bool) → cond a b false ≡ true → a ≡ true
    on true b h = refl
    on false b h = h

line-is : (form : Form) (s : List ℕ) (p : ℕ) (n v : Piece) (f : FieldRead) → judged_line form p n v ≡ good f → Lying s n → Lying s v → LowerLine s f
unfolding judged_line
line-is form s p n v f e x y =
    let a = into no-wrong (is_lower_name n.text) _ e in
    let b = into no-wrong (is_line_value form v.text) _ a.1 in
    let r : FieldRead = record { name = n; value = v; place = p } in
    let z : r ≡ f = cc in
    let l : map lower_of n.text ≡ n.text = lower-same n.text (name-rule n.text a.0).2 in
    let made : LowerLine s r = record { line = record { lies = record { name = x; value = y }; good = record { name = rw l a.0; value = value-trimmed form v.text b.0 } }; lower = a.0 } in
    subst (LowerLine s) z made

module _ {s : List ℕ} {e : ℕ} where
  every-name : {at : Cursor} (form : Form) (p a : ℕ) → Every s e (λ n f. LowerLine s f) at (after_name_length form p a)
  unfolding after_name_length
  every-name form p a =
      stops-bind _ (every-octets a _ _ λ w l x o.
      stops-bind _ (every_here (stops-bind _ (every-integer _ _ λ j b.
      stops-bind _ (every-octets b _ _ λ u k y o.
      every-tell (judged_line form p _ _) λ f q. line-is form s p _ _ f q x y)))))

  every-known-line : {at : Cursor} (form : Form) → Every s e (λ n f. LowerLine s f) at (known_line form)
  unfolding known_line
  every-known-line form =
      stops-bind _ (every_here (stops-bind _ (every-integer _ _ λ i a.
      stops-if (eqb a 0) (λ h. every-refuse) λ h. every-name form _ a)))

  -- ---- sections

  every-known-lines : (form : Form) (f : ℕ) {at : Cursor} (fs : List FieldRead) → LinesAt s fs → Every s e (λ n h. LinesAt s h) at (known_lines form f fs)
  unfolding known_lines
  every-known-lines form zero fs h = every-refuse
  every-known-lines form (suc f) fs h =
      stops-bind _ (stops-ended λ b.
      stops-bind _ (every_here (
      stops-if b (λ t. stops-give h) λ t.
      stops-if (leb lines_most (length fs)) (λ u. every-refuse) λ u.
      stops_then _ (every-known-line form) λ i x g.
      every-known-lines form f (fs ++ x ∷ []) (lines_snoc s fs x h g (leb-false lines_most (length fs) u)))))

  every-open-lines : (form : Form) (f : ℕ) {at : Cursor} (fs : List FieldRead) → LinesAt s fs → Every s e (λ n h. LinesAt s h) at (open_lines form f fs)
  unfolding open_lines
  every-open-lines form zero fs h = every-refuse
  every-open-lines form (suc f) fs h =
      stops-bind _ (every_here (stops-bind _ (every-integer _ _ λ i a.
      stops-if (eqb a 0) (λ t. stops-give h) λ t.
      stops-if (leb lines_most (length fs)) (λ u. every-refuse) λ u.
      stops_then _ (every-name form _ a) λ j x g.
      every-open-lines form f (fs ++ x ∷ []) (lines_snoc s fs x h g (leb-false lines_most (length fs) u)))))

-- the body is a part of the input: the lines inside it lie in the input, at their places there
every_body : {s : List ℕ} {e : ℕ} {at : Cursor} (form : Form) (b : Piece) → PartAt s at b → Every s e (λ n h. LinesAt s h) at (body_lines form b)
unfolding body_lines
every_body {s} {e} {at} form b y =
    record {
      go = λ l z.
          on l z (known_lines form (suc lines_most) [] (cursor b.place at.long) b.text)
          ((every-known-lines {e = b.place + length b.text} form (suc lines_most) [] (lines_none s)).go b.text (record { lies = y.lies; ends = refl; few = y.few }));
    }
  where
    on : (l : List ℕ) → Stands s e at l → (x : Got (List FieldRead)) → Gets (λ n i h. Stands s (b.place + length b.text) n i × LinesAt s h) x
        → Gets (λ n i h. Stands s e n i × LinesAt s h) (on_body x at l)
    on l z (got fs n i) g = (record { lies = z.lies; ends = z.ends; few = omega (arith, g.0.few, g.0.ends, y.ends) }, g.1)
    on l z (no n p) g = tt

module _ {s : List ℕ} {e : ℕ} where
  every-known-section : {at : Cursor} (form : Form) → Every s e (λ n h. LinesAt s h) at (known_section form)
  unfolding known_section
  every-known-section form = stops_then _ every-part λ i b y. every_body form b y

  pub every-section : {at : Cursor} (form : Form) → Every s e (λ n h. LinesAt s h.lines) at (section form)
  unfolding section
  every-section form =
      stops_then _ (stops-if form.known (λ t. every-known-section form) (λ t. every-open-lines form (suc lines_most) [] (lines_none s))) λ i fs h.
      stops-bind _ (every_here (stops-give h))

  pub every-header : {at : Cursor} (form : Form) → Every s e (λ n h. LinesAt s h.lines) at (header_section form)
  unfolding header_section
  every-header form =
      stops-bind _ (stops-ended λ b.
      stops-bind _ (every_here (
      stops-if (cond b form.headless false) (λ t. stops-give (lines_none s)) (λ t. every-section form))))
