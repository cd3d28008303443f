-- A field line that was taken, as the code makes it, and what the next line of a section tells.
use Rattle.std.proofs.Common.{None, Option, Some}
use Prim.Native.Nat.{ℕ, ◌+◌, ◌-◌, ◌≤◌}
use mathlib.Core.Path.{◌≡◌, refl, sym, ap, ◌∙◌}
use mathlib.Core.List.{List, [], ◌∷◌, map}
use mathlib.Core.Bool.{Bool, true, false, cond}
use native.Mathlib.Omega.{arith}
use borrow.Author.Tests.{eqb-true, eqb-false}
use lib.Dec.{eqb}
use lib.ListN.{length, take, drop, length-drop}
use lib.Seq.{length-take-le}
use Rattle.octets.specs.Text.{lower_of, is_empty}
use Rattle.script.specs.Script.{line_of}
use Rattle.script.specs.Do.{piece, good, wrong}
use Rattle.script.specs.declared.Line.{Line}
use Rattle.script.specs.declared.Line.TheVariants.{Ends, Bad, Long, More}
use Rattle.messages.specs.Names.{kind_of, line_kind, is_end_to_end}
use Rattle.messages.specs.Notes.{is_noted, note_of, note_line}
use Rattle.messages.specs.declared.Notes.{Notes}
use Rattle.messages.proofs.Noting.{noted_nothing}
use Rattle.messages.specs.declared.Kind.{Kind}
use Rattle.octets.specs.Refusals.{bad_syntax}
use Rattle.http1_lines.specs.Lines.{field_lens, field_of, field_parts}
use Rattle.http1_lines.specs.Next.{of_field, line_judged, on_line, next_line}
use Rattle.http1_lines.specs.declared.FieldLine.{FieldLine}
use Rattle.http1_lines.specs.declared.NextLine.{NextLine}
use Rattle.http1_lines.specs.declared.NextLine.TheVariants as line
use Rattle.http1_lines.proofs.Views.{field-within}
use Rattle.ranges.specs.Ranges.{StoredIf}
use Rattle.http1_parts.specs.Section.{line_at, LineTaken}
use Rattle.http1_parts.proofs.Parts.{part-front, part-inner, part-long}

-- ---- a line that is taken

pub line-taken : (s : List ℕ) (i n v l : ℕ) (host : Bool) (k : ℕ) (o o' : List ℕ) (kind : Kind) (t : Bool) (r : ℕ) → i + n ≤ length s → v + l ≤ length s
    → kind ≡ kind_of (map lower_of (take (i + n - i) (drop i s))) → t ≡ is_end_to_end host kind → StoredIf t k (i ∷ n ∷ v ∷ l ∷ []) o o' r
    → LineTaken (line_at s i n v l) host k o o' (record { kind = kind; kept = r })
unfolding line_kind
line-taken s i n v l host k o o' kind t r a b ek et p =
    let z : i + n - i ≡ n = omega arith in
    let e : kind ≡ kind_of (map lower_of (take n (drop i s))) = ek ∙ rw z refl in
    record { kind = e; stored = rw (← e, ← et, name-long, value-long) p }
  where
    name-long : length (take n (drop i s)) ≡ n
    name-long = length-take-le n (drop i s) (omega (arith, length-drop i s))

    value-long : length (take l (drop v s)) ≡ l
    value-long = length-take-le l (drop v s) (omega (arith, length-drop v s))

module _ (s : List ℕ) (i n v l : ℕ) {k : Kind} (notes : Notes) (e : k ≡ line_kind (line_at s i n v l)) where
  -- a line that was noted, and one of which nothing is noted
  pub note-taken : {noted : Notes} → noted ≡ note_of true notes k i v (take (v + l - v) (drop v s)) → noted ≡ note_line true notes (line_at s i n v l)
  note-taken q =
      let z : v + l - v ≡ l = omega arith in
      q ∙ ap (λ (x : ℕ). note_of true notes k i v (take x (drop v s))) z ∙ ap (λ (x : Kind). note_of true notes x i v (take l (drop v s))) e

  pub note-passed : is_noted k ≡ false → notes ≡ note_line true notes (line_at s i n v l)
  note-passed q = sym (noted_nothing true notes k i v (take l (drop v s)) q) ∙ ap (λ (x : Kind). note_of true notes x i v (take l (drop v s))) e

-- ---- what the next line tells

-- the outcomes of the next line, by number
abbrev tag : NextLine → ℕ
tag (line.Field n v l next) = 0
tag (line.Empty next) = 1
tag line.NoField = 2
tag line.Bad = 3
tag line.Long = 4
tag line.More = 5

tag-field : (next : ℕ) (f : Option FieldLine) → tag (of_field next f) ≤ 2
tag-field next (Some f) = omega arith
tag-field next None = omega arith

tag-judged : (w : List ℕ) (next : ℕ) → tag (line_judged w next) ≤ 2
unfolding line_judged
tag-judged w next = go (is_empty w)
  where
    go : (b : Bool) → tag (cond b (line.Empty next) (of_field next (field_lens w))) ≤ 2
    go true = omega arith
    go false = tag-field next (field_lens w)

pub record EmptyLine (s : List ℕ) (i left next : ℕ) : Type 0 where
  pub ends : line_of (drop i s) left i 0 ≡ Ends next
  pub none : length (take (next - 2 - i) (drop i s)) ≡ 0

pub record FieldAt (s : List ℕ) (i left n v l next : ℕ) : Type 0 where
  pub ends : line_of (drop i s) left i 0 ≡ Ends next
  pub field : field_lens (take (next - 2 - i) (drop i s)) ≡ Some (field_parts n v l)

pub record NoFieldAt (s : List ℕ) (i left : ℕ) : Type 0 where
  pub next : ℕ
  pub ends : line_of (drop i s) left i 0 ≡ Ends next
  pub some : length (take (next - 2 - i) (drop i s)) ≡ 0 → ⊥
  pub bad : field_lens (take (next - 2 - i) (drop i s)) ≡ None

module _ (s : List ℕ) (i left : ℕ) where
  pub tells_more : next_line s i left ≡ line.More → line_of (drop i s) left i 0 ≡ More
  unfolding next_line
  tells_more q = go (line_of (drop i s) left i 0) q
    where
      go : (l : Line) → on_line s i l ≡ line.More → l ≡ More
      go (Ends e) q = absurd (omega (arith, tag-judged (take (e - 2 - i) (drop i s)) e, ap tag q))
      go Bad q = absurd (omega (arith, ap tag q))
      go Long q = absurd (omega (arith, ap tag q))
      go More q = refl

  pub tells-bad : next_line s i left ≡ line.Bad → line_of (drop i s) left i 0 ≡ Bad
  unfolding next_line
  tells-bad q = go (line_of (drop i s) left i 0) q
    where
      go : (l : Line) → on_line s i l ≡ line.Bad → l ≡ Bad
      go (Ends e) q = absurd (omega (arith, tag-judged (take (e - 2 - i) (drop i s)) e, ap tag q))
      go Bad q = refl
      go Long q = absurd (omega (arith, ap tag q))
      go More q = absurd (omega (arith, ap tag q))

  pub tells-long : next_line s i left ≡ line.Long → line_of (drop i s) left i 0 ≡ Long
  unfolding next_line
  tells-long q = go (line_of (drop i s) left i 0) q
    where
      go : (l : Line) → on_line s i l ≡ line.Long → l ≡ Long
      go (Ends e) q = absurd (omega (arith, tag-judged (take (e - 2 - i) (drop i s)) e, ap tag q))
      go Bad q = absurd (omega (arith, ap tag q))
      go Long q = refl
      go More q = absurd (omega (arith, ap tag q))

  pub tells-empty : (next : ℕ) → next_line s i left ≡ line.Empty next → EmptyLine s i left next
  unfolding next_line line_judged is_empty
  tells-empty next q = go (line_of (drop i s) left i 0) refl q
    where
      in_field : (e : ℕ) (f : Option FieldLine) → of_field e f ≡ line.Empty next → ⊥
      in_field e (Some f) q = omega (arith, ap tag q)
      in_field e None q = omega (arith, ap tag q)

      pick : (e : ℕ) (b : Bool) → eqb (length (take (e - 2 - i) (drop i s))) 0 ≡ b → line_of (drop i s) left i 0 ≡ Ends e
          → cond b (line.Empty e) (of_field e (field_lens (take (e - 2 - i) (drop i s)))) ≡ line.Empty next → EmptyLine s i left next
      pick e true h k q =
          let z : e ≡ next = cc in
          rw (← z) (record { ends = k; none = eqb-true (length (take (e - 2 - i) (drop i s))) 0 h })
      pick e false h k q = absurd (in_field e (field_lens (take (e - 2 - i) (drop i s))) q)

      go : (l : Line) → line_of (drop i s) left i 0 ≡ l → on_line s i l ≡ line.Empty next → EmptyLine s i left next
      go (Ends e) k q = pick e (eqb (length (take (e - 2 - i) (drop i s))) 0) refl k q
      go Bad k q = absurd (omega (arith, ap tag q))
      go Long k q = absurd (omega (arith, ap tag q))
      go More k q = absurd (omega (arith, ap tag q))

  pub tells-field : (n v l next : ℕ) → next_line s i left ≡ line.Field n v l next → FieldAt s i left n v l next
  unfolding next_line line_judged
  tells-field n v l next q = go (line_of (drop i s) left i 0) refl q
    where
      in_field : (e : ℕ) (f : Option FieldLine) → field_lens (take (e - 2 - i) (drop i s)) ≡ f → line_of (drop i s) left i 0 ≡ Ends e → of_field e f ≡ line.Field n v l next
          → FieldAt s i left n v l next
      in_field e (Some f) h p q =
          let z : e ≡ next = cc in
          let a : f.name ≡ n = cc in
          let b : f.value ≡ v = cc in
          let c : f.len ≡ l = cc in
          let y : Some f ≡ Some (field_parts n v l) = rw (← a, ← b, ← c) refl in
          rw (← z) (record { ends = p; field = h ∙ y })
      in_field e None h p q = absurd (omega (arith, ap tag q))

      pick : (e : ℕ) (b : Bool) → line_of (drop i s) left i 0 ≡ Ends e
          → cond b (line.Empty e) (of_field e (field_lens (take (e - 2 - i) (drop i s)))) ≡ line.Field n v l next → FieldAt s i left n v l next
      pick e true k q = absurd (omega (arith, ap tag q))
      pick e false k q = in_field e (field_lens (take (e - 2 - i) (drop i s))) refl k q

      go : (x : Line) → line_of (drop i s) left i 0 ≡ x → on_line s i x ≡ line.Field n v l next → FieldAt s i left n v l next
      go (Ends e) k q = pick e (is_empty (take (e - 2 - i) (drop i s))) k q
      go Bad k q = absurd (omega (arith, ap tag q))
      go Long k q = absurd (omega (arith, ap tag q))
      go More k q = absurd (omega (arith, ap tag q))

  pub tells_none : next_line s i left ≡ line.NoField → NoFieldAt s i left
  unfolding next_line line_judged is_empty
  tells_none q = go (line_of (drop i s) left i 0) refl q
    where
      in_field : (e : ℕ) (f : Option FieldLine) → field_lens (take (e - 2 - i) (drop i s)) ≡ f → line_of (drop i s) left i 0 ≡ Ends e
          → (length (take (e - 2 - i) (drop i s)) ≡ 0 → ⊥) → of_field e f ≡ line.NoField → NoFieldAt s i left
      in_field e (Some f) h p x q = absurd (omega (arith, ap tag q))
      in_field e None h p x q = record { next = e; ends = p; some = x; bad = h }

      pick : (e : ℕ) (b : Bool) → eqb (length (take (e - 2 - i) (drop i s))) 0 ≡ b → line_of (drop i s) left i 0 ≡ Ends e
          → cond b (line.Empty e) (of_field e (field_lens (take (e - 2 - i) (drop i s)))) ≡ line.NoField → NoFieldAt s i left
      pick e true h k q = absurd (omega (arith, ap tag q))
      pick e false h k q = in_field e (field_lens (take (e - 2 - i) (drop i s))) refl k (eqb-false (length (take (e - 2 - i) (drop i s))) 0 h) q

      go : (x : Line) → line_of (drop i s) left i 0 ≡ x → on_line s i x ≡ line.NoField → NoFieldAt s i left
      go (Ends e) k q = pick e (eqb (length (take (e - 2 - i) (drop i s))) 0) refl k q
      go Bad k q = absurd (omega (arith, ap tag q))
      go Long k q = absurd (omega (arith, ap tag q))
      go More k q = absurd (omega (arith, ap tag q))

-- ---- the line as the definitions judge it

pub field-bad : (w : List ℕ) (i : ℕ) → field_lens w ≡ None → field_of (piece i w) ≡ wrong bad_syntax i
unfolding field_of
field-bad w i e = rw e refl

module _ (s : List ℕ) (i e n v l : ℕ) (h : i ≤ e) (g : e ≤ length s) (q : field_lens (take (e - i) (drop i s)) ≡ Some (field_parts n v l)) where
  -- where the name and the value end
  pub line-bounds : (1 ≤ n) × (n ≤ e - i) × (v + l ≤ e - i)
  line-bounds =
      let b = field-within (take (e - i) (drop i s)) n v l q in
      (b.0, omega (arith, b, part-long s i e h g), omega (arith, b, part-long s i e h g))

  pub field-good : field_of (piece i (take (e - i) (drop i s))) ≡ good (line_at s i n (i + v) l)
  unfolding field_of
  field-good =
      let b = line-bounds in
      let x : i + n - i ≡ n = omega arith in
      let y : i + v + l - (i + v) ≡ l = omega arith in
      let a : take n (take (e - i) (drop i s)) ≡ take n (drop i s) = sym (part-front s i e n b.1) ∙ rw x refl in
      let d : take l (drop v (take (e - i) (drop i s))) ≡ take l (drop (i + v) s) = sym (part-inner s i e v l b.2) ∙ rw y refl in
      rw (q, a, d) refl
