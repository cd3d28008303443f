-- What a section that was read says to its caller, by its outcome.
use Rattle.std.proofs.Common.{None, Option, Some, Ok, Err}
use Prim.Native.Nat.{ℕ, zero, suc, ◌+◌, ◌-◌, ◌≤◌}
use mathlib.Core.Path.{◌≡◌, refl, sym, ap, ◌∙◌, subst}
use mathlib.Core.List.{List, [], ◌∷◌, ◌++◌}
use mathlib.Core.Bool.{Bool, true, false, cond}
use native.Mathlib.Omega.{arith}
use borrow.Author.Tests.{eqb-true}
use lib.Dec.{leb}
use lib.ListN.{length, take, drop, length-append, length-drop, replicate, length-replicate}
use lib.Seq.{length-take-le}
use Rattle.octets.specs.Text.{is_empty}
use Rattle.octets.specs.Limits.{lines_most}
use Rattle.octets.specs.Refusals.{too_large, refused_at}
use Rattle.script.specs.Script.{Answer, accepted, refused, more, Script, done, stop, run, Every}
use Rattle.script.proofs.Places.{run_bind}
use Rattle.script.specs.Do.{◌>>=◌, Piece, piece, word, tell, good}
use Rattle.script.proofs.Do.{every_bind, every-tell}
use Rattle.script.proofs.Sound.{sound, says}
use Rattle.messages.specs.Message.{FieldRead}
use Rattle.messages.specs.Names.{kept_of}
use Rattle.messages.specs.Notes.{notes_of}
use Rattle.messages.specs.declared.Stop.{Stop}
use Rattle.http1_lines.specs.Lines.{on_field, field_lens, field_of}
use Rattle.http1_lines.specs.declared.FieldLine.{FieldLine}
use Rattle.http1_lines.specs.Read.{Lines, line_within, less, field_lines, section}
use Rattle.http1_lines.proofs.Views.{field-within}
use Rattle.sound.specs.Placed.{Each}
use Rattle.sound.proofs.Each.{each_snoc, each_map}
use Rattle.http1_parts.specs.Section.{Before, LinesStored, SectionSays, Sectioned}
use Rattle.http1_parts.specs.declared.Section.{Section}
use Rattle.http1_parts.specs.Stops.{stopped}
use Rattle.http1_parts.proofs.Stops.{stopped-as, and-stopped}

-- ---- a section ends where its run does, its octets are taken off its allowance, and its values end before it

-- a section that ends at n, within an allowance of so many octets from a place on
pub record Ended (total n : ℕ) (h : Lines) : Type 0 where
  pub end : h.end ≡ n
  pub left : n + h.left ≡ total
  pub before : Each (Before n) h.lines

value_before : (l : Piece) (f : FieldRead) → field_of l ≡ good f → Before (l.place + length l.text) f
unfolding field_of
value_before l f e = go (field_lens l.text) refl e
  where
    go : (x : Option FieldLine) → field_lens l.text ≡ x → on_field l x ≡ good f → Before (l.place + length l.text) f
    go (Some x) q g =
        let n : ℕ = x.name in
        let b : ℕ = x.value in
        let k : ℕ = x.len in
        let v = field-within l.text n b k q in
        let r : FieldRead = record { name = piece l.place (take n l.text); value = piece (l.place + b) (take k (drop b l.text)); place = l.place } in
        let z : r ≡ f = cc in
        let m : length (take k (drop b l.text)) ≡ k = length-take-le k (drop b l.text) (omega (arith, v, length-drop b l.text)) in
        subst (Before (l.place + length l.text)) z (omega (arith, v, m))
    go None q g = let z : ◌≡◌ {A = ℕ} 0 1 = cc in absurd (omega arith)

every-ended : (s : List ℕ) (f left at total : ℕ) (fs : List FieldRead) → at + left ≡ total → Each (Before at) fs → Every s (λ n h. Ended total n h) at (field_lines f left fs)
unfolding field_lines is_empty
every-ended s zero left at total fs t h = tt
every-ended s (suc f) left at total fs t h =
    every_bind s _ at (word (line_within left)) _ λ w g y.
    let a : length (w ++ 13 ∷ 10 ∷ []) ≡ length w + 2 = length-append w (13 ∷ 10 ∷ []) in
    pick w (is_empty w) (leb lines_most (length fs)) refl g.2 a (λ x q. every-ended s f (less left (piece at w)) _ total (fs ++ x ∷ []) (omega (arith, a, g.2)) q)
  where
    pick : (w : List ℕ) (b c : Bool) → is_empty w ≡ b → length w + 2 ≤ left → length (w ++ 13 ∷ 10 ∷ []) ≡ length w + 2
        → ((x : FieldRead) → Each (Before (at + length (w ++ 13 ∷ 10 ∷ []))) (fs ++ x ∷ [])
        → Every s (λ n h. Ended total n h) (at + length (w ++ 13 ∷ 10 ∷ [])) (field_lines f (less left (piece at w)) (fs ++ x ∷ [])))
        → Every s (λ n h. Ended total n h) (at + length (w ++ 13 ∷ 10 ∷ []))
        (cond b (done (record { lines = fs; end = at + 2; left = left - 2 }))
        (cond c (stop too_large at) (tell (field_of (piece at w)) >>= λ x. field_lines f (less left (piece at w)) (fs ++ x ∷ []))))
    pick w true c e l a ih =
        let z : length w ≡ 0 = empty-is w e in
        record {
          end = omega (arith, a, z);
          left = omega (arith, a, z, l, t);
          before = each_map (Before at) (Before (at + length (w ++ 13 ∷ 10 ∷ []))) (λ x q. omega (arith, q)) fs h;
        }
      where
        empty-is : (w : List ℕ) → is_empty w ≡ true → length w ≡ 0
        empty-is w e = eqb-true (length w) 0 e
    pick w false true e l a ih = tt
    pick w false false e l a ih =
        every_bind s _ _ (tell (field_of (piece at w))) _ (every-tell s _ _ (field_of (piece at w)) λ x q.
        ih x
        (each_snoc (Before (at + length (w ++ 13 ∷ 10 ∷ []))) fs x
        (each_map (Before at) (Before (at + length (w ++ 13 ∷ 10 ∷ []))) (λ x q. omega (arith, q)) fs h)
        (omega (arith, a, value_before (piece at w) x q))))

pub section-end : (left at : ℕ) (s : List ℕ) {n : ℕ} {h : Lines} → run (section left) at s ≡ accepted n h → Ended (at + left) n h
unfolding section
section-end left at s {n} {h} e =
    (says (λ n a. Ended (at + left) n a × (at ≤ n) × (n ≤ at + length s))
    (sound (λ n a. Ended (at + left) n a) (section left) (replicate at 0) s at (length-replicate at 0) (every-ended _ (suc lines_most) left at (at + left) [] refl tt))
    e).0

-- ---- by outcome

-- lines that were read, the place behind them and what is left of the allowance
abbrev pub lines_with : List FieldRead → ℕ → ℕ → Lines
lines_with fs end left = record { lines = fs; end = end; left = left }

pub record SectionDone (x : Answer Lines) (headers host : Bool) (base : ℕ) (o o' : List ℕ) (r : Section) : Type 0 where
  pub place : ℕ
  pub lines : List FieldRead
  pub taken : x ≡ accepted place (lines_with lines r.end r.left)
  pub counted : r.kept ≡ base + length (kept_of headers host lines)
  pub noted : r.notes ≡ notes_of true lines
  pub stored : LinesStored headers host base lines o o'

module _ {x : Answer Lines} {headers host : Bool} {base : ℕ} {o o' : List ℕ} where
  pub section-stopped : {e : Stop} → Sectioned x headers host base o o' (Err e) → x ≡ stopped e
  section-stopped {e} h = go x h.says
    where
      go : (y : Answer Lines) → SectionSays y headers host base o o' (Err e) → y ≡ stopped e
      go (accepted n l) q = let d = q.0 in cc
      go (refused n p) q = let d = q.0 in let z : Stop.Refused (refused_at n p) ≡ e = cc in stopped-as z
      go more q = let d = q.0 in let z : Stop.More ≡ e = cc in stopped-as z

  pub section-done : {r : Section} → Sectioned x headers host base o o' (Ok r) → SectionDone x headers host base o o' r
  section-done {r} h = go x h.says
    where
      go : (y : Answer Lines) → SectionSays y headers host base o o' (Ok r) → SectionDone y headers host base o o' r
      go (accepted m l) q =
          let d = q.0 in
          let w : Section = record { end = l.end; left = l.left; kept = base + length (kept_of headers host l.lines); notes = notes_of true l.lines } in
          let z : w ≡ r = cc in
          record {
            place = m;
            lines = l.lines;
            taken = ap (λ (y : Section). accepted m (lines_with l.lines y.end y.left)) z;
            counted = sym (ap (λ (y : Section). y.kept) z);
            noted = sym (ap (λ (y : Section). y.notes) z);
            stored = q.1;
          }
      go (refused m k) q = let d = q.0 in let z : ◌≡◌ {A = ℕ} 0 1 = cc in absurd (omega arith)
      go more q = let d = q.0 in let z : ◌≡◌ {A = ℕ} 0 1 = cc in absurd (omega arith)

-- ---- a section, and what goes on behind it

module _ {A : Type 0} (left : ℕ) (f : Lines → Script A) (s : List ℕ) (i : ℕ) where
  pub behind-stopped : (e : Stop) → run (section left) i (drop i s) ≡ stopped e → run (section left >>= f) i (drop i s) ≡ stopped e
  behind-stopped e q = run_bind (section left) f s i ∙ rw q (and-stopped (λ (n : ℕ) (h : Lines). run (f h) n (drop n s)) e)

  pub behind-done : (n : ℕ) (h : Lines) → run (section left) i (drop i s) ≡ accepted n h → run (section left >>= f) i (drop i s) ≡ run (f h) n (drop n s)
  behind-done n h e = run_bind (section left) f s i ∙ rw e refl
