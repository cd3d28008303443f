-- What the section loops answer, and sections from their lines.
use Prim.Native.Nat.{ℕ, suc, ◌+◌, ◌-◌, ◌*◌, ◌<◌, ◌≤◌}
use mathlib.Core.Path.{◌≡◌, refl, sym, ap, ap₂, ◌∙◌, subst}
use mathlib.Core.List.{List, []}
use mathlib.Core.Bool.{Bool, true, false, cond}
use native.Mathlib.Omega.{arith}
use borrow.Author.Tests.{eq-eqb, ne_eqb}
use lib.ListN.{length, take, drop, length-drop}
use lib.Seq.{length-take-le}
use Rattle.std.proofs.Common.{Some, None, Result, Ok, Err}
use Rattle.octets.specs.Limits.{lines_most}
use Rattle.octets.specs.Refusals.{cut_off, refused_at}
use Rattle.octets.specs.declared.Refused.{Refused}
use Rattle.octets.specs.Text.{is_empty}
use Rattle.numbers.specs.Integer.{integer_of, read_int}
use Rattle.numbers.proofs.IntegerLaws.{int-within}
use Rattle.messages.specs.Message.{FieldRead, Section}
use Rattle.messages.specs.Names.{lines_of, end_to_end, connection_values, unnamed, kept}
use Rattle.messages.specs.Notes.{no_notes, notes_of}
use Rattle.messages.specs.Answers.{fields_numbers}
use Rattle.messages.specs.declared.Notes.{Notes}
use Rattle.messages.proofs.Noting.{notes-none, notes-connections}
use Rattle.sound.proofs.Parts.{section-lies}
use Rattle.ranges.specs.Ranges.{AlteredFrom}
use Rattle.ranges.specs.Connections.{GatheredFacts, Kept, LinesGathered}
use Rattle.ranges.proofs.Storing.{altered-none, stores-none}
use Rattle.binary.specs.declared.Cursor.{Cursor}
use Rattle.binary.specs.Reader.{Got, got, no, cursor, on_got, ◌>>=◌, give}
use Rattle.binary.specs.declared.Form.{Form}
use Rattle.binary.specs.Read.{part, known_lines, on_body, body_lines, known_section, open_lines, open_section, section, no_section, header_section}
use Rattle.binary_parts.specs.Section.{BodySays, Bodied, Onward, GatheredSays, SectionGathered, SectionSays, Sectioned}
use Rattle.binary_parts.specs.declared.Section as answer
use Rattle.binary_parts.proofs.Places.{integer-cut, integer-got, octets-cut, octets-got}
use Rattle.binary_parts.proofs.SectionLines.{InLines}

-- an answer that equals another promises the same
pub bodied-as : {x y : Got (List FieldRead)} {end : ℕ} {host : Bool} {k : ℕ} {o o' : List ℕ} {r : Result answer.Section Refused} → x ≡ y
    → BodySays y end host k o o' r → Bodied x end host k o o' r
bodied-as {end = end} {host = host} {k = k} {o = o} {o' = o'} {r = r} e h =
    record { says = subst (λ (z : Got (List FieldRead)). BodySays z end host k o o' r) (sym e) h }

-- a refusal, with what was stored before it
pub bodied-no : {x : Got (List FieldRead)} {end n p : ℕ} {host : Bool} {k : ℕ} {o o' : List ℕ} {f : Refused} → x ≡ no n p → f ≡ refused_at n p → AlteredFrom (k * 4) o o'
    → Bodied x end host k o o' (Err f)
bodied-no {n = n} {p = p} e q a = bodied-as {y = no n p} e (rw q, a)

-- the body from its first line on
pub known_start : (form : Form) (n a c : ℕ) (s : List ℕ) → known_lines form n [] (cursor a c) s ≡ known_lines form n [] (cursor (a + 0) c) (drop 0 s)
known_start form n a c s = let z : a + 0 ≡ a = omega arith in rw z

-- ---- sections

-- a section from its lines
abbrev pub closed : Got (List FieldRead) → Got Section
closed (got fs e l) = got (record { lines = fs; end = e.at }) e l
closed (no n p) = no n p

on-closed : (x : Got (List FieldRead)) → on_got x (λ fs e l. closed (got fs e l)) ≡ closed x
on-closed (got fs e l) = refl
on-closed (no n p) = refl

-- a section of known length or not
abbrev from-lines : Form → Cursor → List ℕ → Bool → Got Section
from-lines form at l known = on_got (cond known (known_section form) (open_section form) at l) (λ fs e l. closed (got fs e l))

known-closed : (form : Form) (at : Cursor) (l : List ℕ) → form.known ≡ true → section form at l ≡ closed (known_section form at l)
unfolding section ◌>>=◌
known-closed form at l k = ap (from-lines form at l) k ∙ on-closed (known_section form at l)

open-closed : (form : Form) (at : Cursor) (l : List ℕ) → form.known ≡ false → section form at l ≡ closed (open_lines form (suc lines_most) [] at l)
unfolding section ◌>>=◌
open-closed form at l k = ap (from-lines form at l) k ∙ on-closed (open_lines form (suc lines_most) [] at l)

module _ {s : List ℕ} {host : Bool} {k : ℕ} {o o' : List ℕ} {r : Result answer.Section Refused} where
  pub gathered-as : {x y : Got Section} → x ≡ y → GatheredSays s y host k o o' r → SectionGathered s x host k o o' r
  gathered-as e h = record { says = subst (λ (z : Got Section). GatheredSays s z host k o o' r) (sym e) h }

  -- the lines of an indeterminate section are the section
  pub gathered-open : (form : Form) (at : Cursor) (l : List ℕ) {y : Got (List FieldRead)} → form.known ≡ false → open_lines form (suc lines_most) [] at l ≡ y
      → GatheredSays s (closed y) host k o o' r → SectionGathered s (section form at l) host k o o' r
  gathered-open form at l {y} u e h = gathered-as {y = closed y} (open-closed form at l u ∙ ap closed e) h

  -- the body fills the section, behind which the reading goes on
  gathered-body : {end : ℕ} (c : ℕ) (x : Got (List FieldRead)) → end ≤ length s → Bodied x end host k o o' r
      → SectionGathered s (closed (on_body x (cursor end c) (drop end s))) host k o o' r
  gathered-body {end} c x b h = record { says = go x h.says }
    where
      go : (x : Got (List FieldRead)) → BodySays x end host k o o' r → GatheredSays s (closed (on_body x (cursor end c) (drop end s))) host k o o' r
      go (got fs e l) q = (q.0, q.1, record { end = refl; within = b; left = refl; counted = q.2 })
      go (no n p) q = q

-- a refusal, with what was stored before it
pub gathered-no : {s : List ℕ} {x : Got Section} {n p : ℕ} {host : Bool} {k : ℕ} {o o' : List ℕ} {f : Refused} → x ≡ no n p → f ≡ refused_at n p → AlteredFrom (k * 4) o o'
    → SectionGathered s x host k o o' (Err f)
gathered-no {n = n} {p = p} e q a = gathered-as {y = no n p} e (rw q, a)

pub open-no : {s : List ℕ} {host : Bool} {k : ℕ} {o o' : List ℕ} {f : Refused} (form : Form) (at : Cursor) (l : List ℕ) {n p : ℕ} → form.known ≡ false
    → open_lines form (suc lines_most) [] at l ≡ no n p → f ≡ refused_at n p → AlteredFrom (k * 4) o o' → SectionGathered s (section form at l) host k o o' (Err f)
open-no form at l {n} {p} u e q a = gathered-open form at l {y = no n p} u e (rw q, a)

module _ (form : Form) (known : form.known ≡ true) (s : List ℕ) (from : Cursor) where
  pub section-cut : read_int from.at (drop from.at s) ≡ None → section form from (drop from.at s) ≡ no cut_off from.at
  unfolding known_section part ◌>>=◌
  section-cut e = rw (known-closed form from (drop from.at s) known, integer-cut s from cut_off from.at e)

  module _ {n next l : ℕ} (e : read_int from.at (drop from.at s) ≡ Some (integer_of n next l)) where
    pub section-short : length s - next < n → section form from (drop from.at s) ≡ no cut_off from.at
    unfolding known_section part ◌>>=◌
    section-short h = rw (known-closed form from (drop from.at s) known, integer-got s from cut_off from.at e, octets-cut s (cursor next (from.long + l)) n cut_off from.at h)

    section-in : n ≤ length s - next
        → section form from (drop from.at s)
        ≡ closed (on_body (known_lines form (suc lines_most) [] (cursor next (from.long + l)) (take n (drop next s))) (cursor (next + n) (from.long + l)) (drop (next + n) s))
    unfolding known_section part body_lines ◌>>=◌
    section-in h = rw (known-closed form from (drop from.at s) known, integer-got s from cut_off from.at e, octets-got s (cursor next (from.long + l)) n cut_off from.at h)

    -- the body was read by itself
    pub section-body : {host : Bool} {k : ℕ} {o o' : List ℕ} {r : Result answer.Section Refused} → n ≤ length s - next
        → Bodied (known_lines form (suc lines_most) [] (cursor next (from.long + l)) (take (next + n - next) (drop next s))) (next + length (take (next + n - next) (drop next s))) host k o o' r
        → SectionGathered s (section form from (drop from.at s)) host k o o' r
    section-body {host} {k} {o} {o'} {r} h b =
        let x : next + n - next ≡ n = omega arith in
        let y : length (take n (drop next s)) ≡ n = length-take-le n (drop next s) (omega (arith, length-drop next s)) in
        let z : Bodied (known_lines form (suc lines_most) [] (cursor next (from.long + l)) (take n (drop next s))) (next + n) host k o o' r = rw (x, y) at b in
        let w : next + n ≤ length s = omega (arith, int-within s from.at e) in
        gathered-as (section-in h) (gathered-body (from.long + l) (known_lines form (suc lines_most) [] (cursor next (from.long + l)) (take n (drop next s))) w z).says

-- ---- what is left of them when those that are named are dropped

module _ {s : List ℕ} {headers host : Bool} {k : ℕ} {o o' : List ℕ} {r : Result answer.Section Refused} where
  pub sectioned-as : {x y : Got Section} → x ≡ y → SectionSays s y headers host k o o' r → Sectioned s x headers host k o o' r
  sectioned-as e h = record { says = subst (λ (z : Got Section). SectionSays s z headers host k o o' r) (sym e) h }

-- a section that was gathered, as the code answers it: its lines, and what the array says of them
record GatheredDone (s : List ℕ) (x : Got Section) (host : Bool) (k : ℕ) (o o' : List ℕ) (q : answer.Section) : Type 0 where
  read : Section
  left : List ℕ
  gives : x ≡ got read q.end left
  onward : Onward s read q.end left
  noted : q.notes ≡ notes_of false read.lines
  facts : GatheredFacts s host k read.lines q.kept q.notes.connections o o'

abbrev section-is : Cursor → ℕ → Notes → answer.Section
section-is e c n = record { end = e; kept = c; notes = n }

module _ {s : List ℕ} {x : Got Section} {host : Bool} {k : ℕ} {o o' : List ℕ} {r : Result answer.Section Refused} (h : SectionGathered s x host k o o' r) where
  pub gathered-refused : {headers : Bool} {f : Refused} → r ≡ Err f → Sectioned s x headers host k o o' (Err f)
  gathered-refused {headers} {f} e = record { says = go x h.says }
    where
      go : (y : Got Section) → GatheredSays s y host k o o' r → SectionSays s y headers host k o o' (Err f)
      go (got a i l) q = let d = q.0 in let z : ◌≡◌ {A = ℕ} 0 1 = cc in absurd (omega arith)
      go (no u v) q = (sym e ∙ q.0, q.1)

  module _ {q : answer.Section} (w : InLines s x) (d : r ≡ Ok q) where
    gathered-done : GatheredDone s x host k o o' q
    gathered-done = go x w h.says
      where
        go : (y : Got Section) → InLines s y → GatheredSays s y host k o o' r → GatheredDone s y host k o o' q
        go (got a i l) w u =
            let f = u.0 in
            let z : section-is i (k + length (end_to_end host a.lines)) (notes_of false a.lines) ≡ q = cc in
            subst (λ (q : answer.Section). GatheredDone s (got a i l) host k o o' q) z
            (record {
              read = a;
              left = l;
              gives = refl;
              onward = u.2;
              noted = refl;
              facts = record {
                gathered = u.1;
                fields = refl;
                lines = sym (notes-connections false a.lines w.1.section.few);
                few = w.1.section.few;
                lying = section-lies s a.lines w.1.section;
              };
            })
        go (no u v) w q = let d' = q.0 in let z : ◌≡◌ {A = ℕ} 0 1 = cc in absurd (omega arith)

    pub gathered-known : LinesGathered s k q.kept q.notes.connections o'
    gathered-known = let g = gathered-done in (host, g.read.lines, o, g.facts)

    pub gathered-kept : {headers : Bool} {o₂ : List ℕ} {c : ℕ} → Kept s headers k q.kept q.notes.connections o' o₂ c
        → Sectioned s x headers host k o o₂ (Ok (section-is q.end c q.notes))
    gathered-kept {headers} y =
        let g = gathered-done in
        let z = y.by host g.read.lines o g.facts in
        sectioned-as {y = got g.read q.end g.left} g.gives (ap₂ (λ (c : ℕ) (m : Notes). Ok (section-is q.end c m)) z.0 g.noted, z.1, g.onward)

-- ---- header sections

-- whether the message ends before one that it may go without
module _ (form : Form) (s : List ℕ) (from : ℕ) where
  pub headless-ended : length s ≤ from → form.headless ≡ cond (is_empty (drop from s)) form.headless false
  unfolding is_empty
  headless-ended h = let z : length s - from ≡ 0 = omega arith in rw (length-drop from s, eq-eqb (length s - from) 0 z)

  pub headless-left : from < length s → false ≡ cond (is_empty (drop from s)) form.headless false
  unfolding is_empty
  headless-left h = rw (length-drop from s, ne_eqb (length s - from) 0 (λ z. omega (arith, z)))

module _ (form : Form) (s : List ℕ) (from : Cursor) where
  header_is : {b : Bool} → b ≡ cond (is_empty (drop from.at s)) form.headless false
      → header_section form from (drop from.at s) ≡ cond b (got (no_section from.at) from (drop from.at s)) (section form from (drop from.at s))
  unfolding header_section ◌>>=◌
  header_is {b} e = rw (← e) (on b)
    where
      on : (b : Bool) → cond b (give (no_section from.at)) (section form) from (drop from.at s)
          ≡ cond b (got (no_section from.at) from (drop from.at s)) (section form from (drop from.at s))
      on true = refl
      on false = refl

module _ (form : Form) (s : List ℕ) (from : Cursor) {host : Bool} {k : ℕ} {o : List ℕ} where
  -- the message may end before it, and does
  pub header-none : {b : Bool} {n : Notes} → b ≡ cond (is_empty (drop from.at s)) form.headless false → b ≡ true → from.at ≤ length s → from.long ≤ from.at → n ≡ no_notes
      → k * 4 ≤ length o → Sectioned s (header_section form from (drop from.at s)) true host k o o (Ok (section-is from k n))
  unfolding kept connection_values lines_of unnamed end_to_end fields_numbers
  header-none e t w f n q =
      let z : k + 0 ≡ k = omega arith in
      sectioned-as {y = got (no_section from.at) from (drop from.at s)} (header_is form s from e ∙ rw t refl)
      (rw (z, n, notes-none false) refl, stores-none (altered-none (k * 4) o) q, record { end = refl; within = w; left = refl; counted = f })

  pub header-some : {b : Bool} {o' : List ℕ} {r : Result answer.Section Refused} → b ≡ cond (is_empty (drop from.at s)) form.headless false → b ≡ false
      → Sectioned s (section form from (drop from.at s)) true host k o o' r → Sectioned s (header_section form from (drop from.at s)) true host k o o' r
  header-some e t h = sectioned-as {y = section form from (drop from.at s)} (header_is form s from e ∙ rw t refl) h.says
