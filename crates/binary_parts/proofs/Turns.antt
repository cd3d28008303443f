-- One line of a section, and one turn of each section loop, by what comes next.
use Prim.Native.Nat.{ℕ, suc, ◌+◌, ◌-◌, ◌<◌, ◌≤◌}
use mathlib.Core.Path.{◌≡◌, refl, sym, ap, ap₂, ◌∙◌, subst}
use mathlib.Core.List.{List, [], ◌∷◌, ◌++◌}
use mathlib.Core.Bool.{Bool, false}
use native.Mathlib.Omega.{arith}
use borrow.Author.Tests.{eq-eqb, ne_eqb, le-leb, lt-leb}
use lib.ListN.{length, take, drop, length-drop}
use Rattle.octets.specs.Text.{is_empty}
use Rattle.octets.specs.Limits.{lines_most}
use Rattle.std.proofs.Common.{Some, None, Result, Ok, Err}
use Rattle.octets.specs.Refusals.{bad_section, cut_off, too_large, refused_at}
use Rattle.octets.specs.declared.Refused.{Refused}
use Rattle.numbers.specs.Integer.{integer_of, read_int}
use Rattle.messages.specs.Message.{FieldRead}
use Rattle.messages.specs.Names.{line_kind, is_end_to_end}
use Rattle.messages.specs.Notes.{is_noted, note_of, note_line}
use Rattle.messages.specs.Answers.{field_numbers}
use Rattle.messages.specs.declared.Kind.{Kind}
use Rattle.messages.specs.declared.Notes.{Notes}
use Rattle.messages.proofs.Noting.{noted_nothing}
use Rattle.ranges.specs.Ranges.{StoredIf}
use Rattle.binary.specs.Reader.{Got, got, no, cursor, ◌>>=◌}
use Rattle.binary.specs.declared.Form.{Form}
use Rattle.binary.specs.Read.{after_name_length, known_line, known_lines, open_lines}
use Rattle.binary_parts.specs.Section.{next_line, LineSays, Lined}
use Rattle.binary_parts.specs.declared.LineRead.{LineRead}
use Rattle.binary_parts.proofs.Steps.{integer-cut, integer-in}
use Rattle.binary_parts.proofs.Places.{integer-cut as integer-cut-here, integer-got}

-- ---- a line by its name length

module _ (form : Form) (a : ℕ) (s : List ℕ) (at c : ℕ) where
  pub known-cut : read_int at (drop at s) ≡ None → known_line form (cursor (a + at) c) (drop at s) ≡ no bad_section (a + at)
  unfolding known_line ◌>>=◌
  known-cut e = rw (integer-cut a s at c bad_section (a + at) e)

  module _ {n next l : ℕ} (e : read_int at (drop at s) ≡ Some (integer_of n next l)) where
    pub known-none : n ≡ 0 → known_line form (cursor (a + at) c) (drop at s) ≡ no bad_section (a + at)
    unfolding known_line ◌>>=◌
    known-none h = rw (integer-in a s at c bad_section (a + at) e, eq-eqb n 0 h)

    pub known-rest : (n ≡ 0 → ⊥) → known_line form (cursor (a + at) c) (drop at s) ≡ after_name_length form (a + at) n (cursor (a + next) (c + l)) (drop next s)
    unfolding known_line ◌>>=◌
    known-rest h = rw (integer-in a s at c bad_section (a + at) e, ne_eqb n 0 h)

-- ---- what the caller learns of a line

-- a line that was read in the part s at the place a, as the code answers it
pub record NextLine (s : List ℕ) (a : ℕ) (x : Got FieldRead) (host : Bool) (k : ℕ) (o o' : List ℕ) (q : LineRead) : Type 0 where
  pub line : FieldRead
  pub is : x ≡ got line (cursor (a + q.end) q.long) (drop q.end s)
  pub within : q.end ≤ length s
  pub kind-is : q.kind ≡ line_kind line
  pub place_is : q.place ≡ line.place
  pub size : length line.value.text ≡ q.len
  pub wide : q.len ≤ q.end
  pub value-at : line.value.place ≡ a + (q.end - q.len)
  pub value-is : line.value.text ≡ take q.len (drop (q.end - q.len) s)
  pub stored : StoredIf (is_end_to_end host (line_kind line)) k (field_numbers line) o o' q.kept
  pub few : q.long ≤ a + q.end

module _ {s : List ℕ} {a : ℕ} {x : Got FieldRead} {host : Bool} {k : ℕ} {o o' : List ℕ} {q : LineRead} (f : NextLine s a x host k o o' q) (n : Notes) where
  -- a line that was noted, and one of which nothing is noted
  pub note-taken : {noted : Notes} {v : ℕ} → v ≡ a + (q.end - q.len) → noted ≡ note_of false n q.kind q.place v (take (q.end - (q.end - q.len)) (drop (q.end - q.len) s))
      → noted ≡ note_line false n f.line
  note-taken e g = let z : q.end - (q.end - q.len) ≡ q.len = omega (arith, f.wide) in
      g ∙ rw (z, e, ← f.value-at, ← f.value-is, f.kind-is, f.place_is)

  pub note-passed : is_noted q.kind ≡ false → n ≡ note_line false n f.line
  note-passed g =
      sym (noted_nothing false n q.kind f.line.place f.line.value.place f.line.value.text g)
      ∙ ap (λ (k : Kind). note_of false n k f.line.place f.line.value.place f.line.value.text) f.kind-is

module _ {s : List ℕ} {a : ℕ} {x : Got FieldRead} {host : Bool} {k : ℕ} {o o' : List ℕ} {r : Result LineRead Refused} (h : Lined s a x host k o o' r) where
  pub lined-next : {q : LineRead} → r ≡ Ok q → NextLine s a x host k o o' q
  lined-next {q} e = go x h.says
    where
      go : (y : Got FieldRead) → LineSays s a y host k o o' r → NextLine s a y host k o o' q
      go (got f i l) d =
          let g = d.2 in
          let z : next_line f d.0 d.1 i.long ≡ q = cc in
          subst (λ (q : LineRead). NextLine s a (got f i l) host k o o' q) z
          (record {
            line = f;
            is = ap₂ (λ (m : ℕ) (t : List ℕ). got f (cursor m i.long) t) d.5 d.7;
            within = d.6;
            kind-is = refl;
            place_is = refl;
            size = refl;
            wide = d.4.long;
            value-at = d.4.place;
            value-is = d.4.text;
            stored = d.3;
            few = d.8;
          })
      go (no y p) d = let g = d.0 in let z : ◌≡◌ {A = ℕ} 0 1 = cc in absurd (omega arith)

  pub lined-refused : {e : Refused} → r ≡ Err e → (x ≡ no e.number e.place) × (o' ≡ o)
  lined-refused {e} q = go x h.says
    where
      go : (y : Got FieldRead) → LineSays s a y host k o o' r → (y ≡ no e.number e.place) × (o' ≡ o)
      go (got f i l) d = let g = d.2 in let z : ◌≡◌ {A = ℕ} 0 1 = cc in absurd (omega arith)
      go (no u v) d = let g = d.0 in let z : refused_at u v ≡ e = cc in (ap (λ (f : Refused). no f.number f.place) z, d.1)

-- ---- the lines of a known-length section

module _ (form : Form) (a : ℕ) (s : List ℕ) (i c f : ℕ) (fs : List FieldRead) where
  pub known-done : length s ≤ i → known_lines form (suc f) fs (cursor (a + i) c) (drop i s) ≡ got fs (cursor (a + i) c) (drop i s)
  unfolding known_lines ◌>>=◌ is_empty
  known-done h = rw (eq-eqb (length (drop i s)) 0 (omega (arith, length-drop i s)))

  module _ (h : i < length s) where
    some_left : is_empty (drop i s) ≡ false
    unfolding is_empty
    some_left = ne_eqb _ _ (λ (q : length (drop i s) ≡ 0). omega (arith, length-drop i s, q))

    pub known-full : lines_most ≤ length fs → known_lines form (suc f) fs (cursor (a + i) c) (drop i s) ≡ no too_large (a + i)
    unfolding known_lines ◌>>=◌
    known-full g = rw (some_left, le-leb _ _ g)

    module _ (g : length fs < lines_most) where
      pub known-wrong : {n p : ℕ} → known_line form (cursor (a + i) c) (drop i s) ≡ no n p → known_lines form (suc f) fs (cursor (a + i) c) (drop i s) ≡ no n p
      unfolding known_lines ◌>>=◌
      known-wrong e = rw (some_left, lt-leb _ _ g, e)

      pub known_next : {x : FieldRead} {long : ℕ} (end g' : ℕ) → f ≡ suc g' → known_line form (cursor (a + i) c) (drop i s) ≡ got x (cursor (a + end) long) (drop end s)
          → known_lines form (suc f) fs (cursor (a + i) c) (drop i s) ≡ known_lines form (suc g') (fs ++ x ∷ []) (cursor (a + end) long) (drop end s)
      unfolding known_lines ◌>>=◌
      known_next end g' z e = rw (some_left, lt-leb _ _ g, e, z)

-- ---- the lines of an indeterminate section

module _ (form : Form) (s : List ℕ) (i c f : ℕ) (fs : List FieldRead) where
  pub open-cut : read_int i (drop i s) ≡ None → open_lines form (suc f) fs (cursor i c) (drop i s) ≡ no cut_off i
  unfolding open_lines ◌>>=◌
  open-cut e = rw (integer-cut-here s (cursor i c) cut_off i e)

  module _ {n next l : ℕ} (e : read_int i (drop i s) ≡ Some (integer_of n next l)) where
    pub open_done : n ≡ 0 → open_lines form (suc f) fs (cursor i c) (drop i s) ≡ got fs (cursor next (c + l)) (drop next s)
    unfolding open_lines ◌>>=◌
    open_done h = rw (integer-got s (cursor i c) cut_off i e, eq-eqb n 0 h)

    module _ (h : n ≡ 0 → ⊥) where
      pub open_full : lines_most ≤ length fs → open_lines form (suc f) fs (cursor i c) (drop i s) ≡ no too_large i
      unfolding open_lines ◌>>=◌
      open_full g = rw (integer-got s (cursor i c) cut_off i e, ne_eqb n 0 h, le-leb _ _ g)

      module _ (g : length fs < lines_most) where
        -- the rest of a line counts its places from 0 on
        as-rest : after_name_length form i n (cursor next (c + l)) (drop next s) ≡ after_name_length form i n (cursor (0 + next) (c + l)) (drop next s)
        as-rest = let z : 0 + next ≡ next = omega arith in rw z

        pub open-wrong : {k p : ℕ} → after_name_length form i n (cursor (0 + next) (c + l)) (drop next s) ≡ no k p → open_lines form (suc f) fs (cursor i c) (drop i s) ≡ no k p
        unfolding open_lines ◌>>=◌
        open-wrong q = rw (integer-got s (cursor i c) cut_off i e, ne_eqb n 0 h, lt-leb _ _ g, as-rest, q)

        pub open_next : {x : FieldRead} {long : ℕ} (end g' : ℕ) → f ≡ suc g' → after_name_length form i n (cursor (0 + next) (c + l)) (drop next s) ≡ got x (cursor (0 + end) long) (drop end s)
            → open_lines form (suc f) fs (cursor i c) (drop i s) ≡ open_lines form (suc g') (fs ++ x ∷ []) (cursor end long) (drop end s)
        unfolding open_lines ◌>>=◌
        open_next end g' z q =
            let y : 0 + end ≡ end = omega arith in
            rw (integer-got s (cursor i c) cut_off i e, ne_eqb n 0 h, lt-leb _ _ g, as-rest, q, z, y)
