-- What a caller learns from a section that was read, and what goes on behind it.
use Prim.Native.Nat.{ℕ, ◌+◌, ◌*◌, ◌≤◌}
use mathlib.Core.Path.{◌≡◌, refl, ap, subst}
use mathlib.Core.List.{List}
use mathlib.Core.Bool.{Bool, false}
use native.Mathlib.Omega.{arith}
use lib.ListN.{length, drop}
use Rattle.std.proofs.Common.{Result, Ok, Err}
use Rattle.octets.specs.Refusals.{refused_at}
use Rattle.octets.specs.declared.Refused.{Refused}
use Rattle.messages.specs.Message.{Section}
use Rattle.messages.specs.Names.{kept_of}
use Rattle.messages.specs.Notes.{notes_of}
use Rattle.messages.specs.Answers.{fields_numbers}
use Rattle.binary.specs.declared.Cursor.{Cursor}
use Rattle.binary.specs.Reader.{Got, got, no, Reader, ◌>>=◌}
use Rattle.binary_sound.proofs.Lines.{LinesAt}
use Rattle.ranges.specs.Ranges.{Stores}
use Rattle.binary_parts.specs.Section.{SectionSays, Sectioned}
use Rattle.binary_parts.specs.declared.Section as answer
use Rattle.binary_parts.proofs.SectionLines.{InLines}

-- a section that was read, as the code answers it
pub record SectionDone (s : List ℕ) (x : Got Section) (headers host : Bool) (k : ℕ) (o o' : List ℕ) (q : answer.Section) : Type 0 where
  pub read : Section
  pub gives : x ≡ got read q.end (drop q.end.at s)
  pub end : read.end ≡ q.end.at
  pub within : q.end.at ≤ length s
  pub lines : LinesAt s read.lines
  pub count : k + length (kept_of headers host read.lines) ≡ q.kept
  pub noted : q.notes ≡ notes_of false read.lines
  pub stored : Stores o (k * 4) (fields_numbers (kept_of headers host read.lines)) o'
  pub counted : q.end.long ≤ q.end.at

module _ {s : List ℕ} {x : Got Section} {headers host : Bool} {k : ℕ} {o o' : List ℕ} {r : Result answer.Section Refused} (h : Sectioned s x headers host k o o' r) where
  pub section-no : {e : Refused} → r ≡ Err e → x ≡ no e.number e.place
  section-no {e} q = go x h.says
    where
      go : (y : Got Section) → SectionSays s y headers host k o o' r → y ≡ no e.number e.place
      go (got a i l) d = let f = d.0 in cc
      go (no j m) d = let f = d.0 in let z : refused_at j m ≡ e = cc in ap (λ (f : Refused). no f.number f.place) z

  pub section-done : {q : answer.Section} → InLines s x → r ≡ Ok q → SectionDone s x headers host k o o' q
  section-done {q} w e = go x w h.says
    where
      go : (y : Got Section) → InLines s y → SectionSays s y headers host k o o' r → SectionDone s y headers host k o o' q
      go (got a i l) w d =
          let f = d.0 in
          let z : ◌≡◌ {A = answer.Section} (record { end = i; kept = k + length (kept_of headers host a.lines); notes = notes_of false a.lines }) q = cc in
          subst (λ (q : answer.Section). SectionDone s (got a i l) headers host k o o' q) z
          (record {
            read = a;
            gives = ap (λ (m : List ℕ). got a i m) d.2.left;
            end = d.2.end;
            within = d.2.within;
            lines = w.1;
            count = refl;
            noted = refl;
            stored = d.1;
            counted = d.2.counted;
          })
      go (no j m) w d = let f = d.0 in let z : ◌≡◌ {A = ℕ} 0 1 = cc in absurd (omega arith)

-- a section, and what goes on behind it
module _ {A : Type 0} (r : Reader Section) (f : Section → Reader A) (s : List ℕ) (from : Cursor) where
  pub behind-no : {n p : ℕ} → r from (drop from.at s) ≡ no n p → (r >>= f) from (drop from.at s) ≡ no n p
  unfolding ◌>>=◌
  behind-no e = rw e

  pub behind-got : {h : Section} {e : Cursor} → r from (drop from.at s) ≡ got h e (drop e.at s) → (r >>= f) from (drop from.at s) ≡ f h e (drop e.at s)
  unfolding ◌>>=◌
  behind-got e = rw e
