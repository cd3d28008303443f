-- The next line of a section, by what the code finds.
use Prim.Native.Nat.{ℕ, suc, ◌+◌, ◌-◌, ◌≤◌, ◌<◌}
use Rattle.std.proofs.Common.{Option}
use mathlib.Core.Path.{◌≡◌, refl, sym, ap, ◌∙◌}
use mathlib.Core.Bool.{Bool, true, false, cond, ◌&&◌}
use mathlib.Core.List.{List, [], ◌∷◌, ◌++◌}
use native.Mathlib.Omega.{arith}
use borrow.Author.Tests.{eq-eqb, ne_eqb}
use lib.ListN.{length, get_or, take, drop, length-drop, length-append}
use lib.Seq.{length-take-le, drop-drop, drop-cons}
use lib.ListN.{take-append-drop}
use Rattle.octets.specs.Class.{has_class, value}
use Rattle.octets.specs.Text.{span_len, all, is_empty}
use Rattle.octets.proofs.Kit.{and_split}
use Rattle.octets.proofs.Classes.{not_at, no-cr, no-lf}
use Rattle.script.specs.Script.{line_of, free}
use Rattle.script.specs.declared.Line.{Line}
use Rattle.script.specs.declared.Line.TheVariants.{Ends, Bad, Long, More}
use Rattle.script.proofs.Lines.{line-back, line-whole}
use Rattle.script.proofs.Places.{line-within}
use Rattle.http1_lines.specs.Lines.{field_lens}
use Rattle.http1_lines.specs.Next.{of_field, line_judged, on_line, next_line}
use Rattle.http1_lines.specs.declared.FieldLine.{FieldLine}
use Rattle.http1_lines.specs.declared.NextLine.{NextLine}
use Rattle.http1_lines.specs.declared.NextLine.TheVariants as line

-- ---- one line

pub judged-empty : (w : List ℕ) (next : ℕ) → length w ≡ 0 → line.Empty next ≡ line_judged w next
unfolding line_judged is_empty
judged-empty w next e = rw (eq-eqb _ _ e)

pub judged-some : (w : List ℕ) (next : ℕ) {f : Option FieldLine} {r : NextLine} → (length w ≡ 0 → ⊥) → f ≡ field_lens w → r ≡ of_field next f → r ≡ line_judged w next
unfolding line_judged is_empty
judged-some w next e h q = rw (ne_eqb _ _ e, ← h) q

-- the part of s from i to e is as long as that
pub part-long : (s : List ℕ) (i e : ℕ) → i ≤ e → e ≤ length s → length (take (e - i) (drop i s)) ≡ e - i
part-long s i e h g = length-take-le (e - i) (drop i s) (omega (arith, length-drop i s))

-- ---- by its end

next-as : (s : List ℕ) (i left : ℕ) {l : Line} {r : NextLine} → line_of (drop i s) left i 0 ≡ l → r ≡ on_line s i l → r ≡ next_line s i left
unfolding next_line
next-as s i left e q = rw e q

module _ (s : List ℕ) (i left : ℕ) {l : Line} (h : l ≡ line_of (drop i s) left i 0) where
  pub next_more : l ≡ More → line.More ≡ next_line s i left
  next_more e = next-as s i left (sym h ∙ e) refl

  pub next-bad : l ≡ Bad → line.Bad ≡ next_line s i left
  next-bad e = next-as s i left (sym h ∙ e) refl

  pub next-long : l ≡ Long → line.Long ≡ next_line s i left
  next-long e = next-as s i left (sym h ∙ e) refl

  pub next-ends : {r : NextLine} (next : ℕ) → l ≡ Ends next → r ≡ line_judged (take (next - 2 - i) (drop i s)) next → r ≡ next_line s i left
  next-ends next e q = next-as s i left (sym h ∙ e) q

-- where a line that ends does: nothing is asked of its place, since past the end of s no line ends
pub ends-within : (s : List ℕ) (n i next : ℕ) → line_of (drop i s) n i 0 ≡ Ends next → (i + 2 ≤ next) × (next ≤ length s) × (next - i ≤ n)
ends-within s n i next e =
    let w = line-whole (drop i s) n i next e in
    line-within s n i next (omega (arith, ap length w.split ∙ length-append w.w (13 ∷ 10 ∷ w.r), length-drop i s)) e

-- ---- by one walk

class-free : (mask d : ℕ) → has_class mask d ≡ false → (w : List ℕ) → all (has_class mask) w ≡ true → free d w ≡ true
unfolding all free
class-free mask d n [] h = refl
class-free mask d n (x ∷ w) h =
    let z = and_split (has_class mask x) (all (has_class mask) w) h in
    rw (not_at (has_class mask) d x n z.0) (class-free mask d n w z.1)

-- the octets of a run pass
run-passes : (p : ℕ → Bool) (l : List ℕ) → all p (take (span_len p l) l) ≡ true
unfolding all span_len
run-passes p [] = refl
run-passes p (x ∷ l) = go (p x) refl (run-passes p l)
  where
    go : (b : Bool) → p x ≡ b → all p (take (span_len p l) l) ≡ true → all p (take (cond b (suc (span_len p l)) 0) (x ∷ l)) ≡ true
    go true e h = rw e h
    go false e h = refl

pub run-all : (p : ℕ → Bool) (s : List ℕ) (i : ℕ) {e : ℕ} → e ≡ i + span_len p (drop i s) → all p (take (e - i) (drop i s)) ≡ true
run-all p s i {e} r = let z : e - i ≡ span_len p (drop i s) = omega arith in rw z (run-passes p (drop i s))

module _ (s : List ℕ) (i : ℕ) {e : ℕ} (r : e ≡ i + span_len (has_class value) (drop i s)) where
  run_value : all (has_class value) (take (e - i) (drop i s)) ≡ true
  run_value = run-all (has_class value) s i r

  split-line : i ≤ e → e + 2 ≤ length s → get_or s e 0 ≡ 13 → get_or s (e + 1) 0 ≡ 10 → drop i s ≡ take (e - i) (drop i s) ++ 13 ∷ 10 ∷ drop (e + 2) s
  split-line h g c l =
      let k : i + (e - i) ≡ e = omega arith in
      let m : suc e ≡ e + 1 = omega arith in
      let n : suc (e + 1) ≡ e + 2 = omega arith in
      let a : drop (e - i) (drop i s) ≡ drop e s = drop-drop (e - i) i s ∙ ap (λ (n : ℕ). drop n s) k in
      let b : drop e s ≡ 13 ∷ drop (e + 1) s = drop-cons s e 0 (omega arith) ∙ rw (c, m) in
      let d : drop (e + 1) s ≡ 10 ∷ drop (e + 2) s = drop-cons s (e + 1) 0 (omega arith) ∙ rw (l, n) in
      sym (take-append-drop (e - i) (drop i s)) ∙ ap (λ (r : List ℕ). take (e - i) (drop i s) ++ r) (a ∙ b ∙ ap (λ (r : List ℕ). 13 ∷ r) d)

  pub next-walked : {n : NextLine} (left : ℕ) → i ≤ e → e + 2 ≤ length s → get_or s e 0 ≡ 13 → get_or s (e + 1) 0 ≡ 10 → e + 2 - i ≤ left
      → n ≡ line_judged (take (e - i) (drop i s)) (e + 2) → n ≡ next_line s i left
  next-walked left h g c l f q =
      let w : length (take (e - i) (drop i s)) ≡ e - i = part-long s i e h (omega arith) in
      let z : e + 2 - 2 - i ≡ e - i = omega arith in
      let y : i + length (take (e - i) (drop i s)) + 2 ≡ e + 2 = omega (arith, w) in
      let b = line-back (take (e - i) (drop i s)) (drop (e + 2) s) left i (class-free value 10 (no-lf value) _ run_value) (class-free value 13 (no-cr value) _ run_value) (omega (arith, w, f)) in
      next-as s i left (ap (λ (x : List ℕ). line_of x left i 0) (split-line h g c l) ∙ b ∙ ap Ends y) (rw z q)
