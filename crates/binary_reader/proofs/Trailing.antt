-- Trailers that were read, by their rule.
use Prim.Native.Nat.{ℕ, ◌-◌, ◌<◌, ◌≤◌}
use mathlib.Core.Path.{◌≡◌, refl, sym, ap, ◌∙◌, subst}
use mathlib.Core.Bool.{Bool, true, false, cond}
use mathlib.Core.List.{List, []}
use native.Mathlib.Omega.{arith}
use borrow.Author.Tests.{eq-eqb, ne_eqb}
use lib.ListN.{length, drop, length-drop}
use Rattle.std.proofs.Common.{Result, Ok, Err}
use Rattle.octets.specs.Refusals.{bad_length, refused_at}
use Rattle.octets.specs.declared.Refused.{Refused}
use Rattle.octets.specs.Text.{is_empty}
use Rattle.script.specs.Do.{Judged, good, wrong}
use Rattle.messages.specs.Message.{FieldRead, Section}
use Rattle.messages.specs.Names.{are_trailers, end_to_end, kept_trailers}
use Rattle.messages.specs.Answers.{fields_numbers}
use Rattle.messages.specs.declared.Notes.{Notes}
use Rattle.messages.proofs.Noting.{trailers-noted}
use Rattle.ranges.specs.Ranges.{Stores}
use Rattle.ranges.proofs.Storing.{altered-none, stores-none}
use Rattle.binary.specs.declared.Cursor.{Cursor}
use Rattle.binary.specs.Reader.{Got, got, no, ◌>>=◌, tell}
use Rattle.binary.specs.declared.Form.{Form}
use Rattle.binary.specs.Read.{section, trailers_agree, trailer_rule, trailers}
use Rattle.binary_parts.specs.Section.{Sectioned}
use Rattle.binary_parts.specs.declared.Section as answer
use Rattle.binary_parts.proofs.SectionLines.{section-lines}
use Rattle.binary_reader.specs.Rest.{TrailersSays, Trailed}
use Rattle.binary_reader.specs.declared.TrailersRead.{TrailersRead}
use Rattle.binary_reader.proofs.SectionOutcomes.{SectionDone, section-no, section-done}

trailed-as : {s : List ℕ} {x y : Got (List FieldRead)} {o o' : List ℕ} {r : Result TrailersRead Refused} → x ≡ y → TrailersSays s y o o' r → Trailed s x o o' r
trailed-as {s} {o = o} {o' = o'} {r = r} e h = record { says = subst (λ (z : Got (List FieldRead)). TrailersSays s z o o' r) (sym e) h }

trailed-no : {s : List ℕ} {x : Got (List FieldRead)} {n p : ℕ} {o o' : List ℕ} {f : Refused} → f ≡ refused_at n p → x ≡ no n p → Trailed s x o o' (Err f)
trailed-no {n = n} {p = p} q e = trailed-as {y = no n p} e (rw q)

abbrev pub trailers-are : Cursor → ℕ → Result TrailersRead Refused
trailers-are end kept = Ok (record { end = end; kept = kept })

some_left : (s : List ℕ) (from : ℕ) → from < length s → is_empty (drop from s) ≡ false
unfolding is_empty
some_left s from h = rw (length-drop from s, ne_eqb (length s - from) 0 (λ z. omega (arith, z)))

section-then : (s : List ℕ) (from : Cursor) (form : Form) (body : Bool) {h : Section} {end : Cursor} {j : Judged (List FieldRead)} → from.at < length s
    → section form from (drop from.at s) ≡ got h end (drop end.at s) → trailer_rule body h ≡ j → trailers form body from (drop from.at s) ≡ tell j end (drop end.at s)
unfolding trailers ◌>>=◌
section-then s from form body g e j = rw (some_left s from.at g, e, j)

module _ (s : List ℕ) (from : Cursor) (form : Form) (body : Bool) {o : List ℕ} where
  pub trailers-none : from.at ≤ length s → from.long ≤ from.at → length s ≤ from.at → Trailed s (trailers form body from (drop from.at s)) o o (trailers-are from 0)
  unfolding trailers ◌>>=◌ is_empty kept_trailers end_to_end fields_numbers
  trailers-none g b h =
      let z : length s - from.at ≡ 0 = omega arith in
      trailed-as {y = got [] from (drop from.at s)} (rw (length-drop from.at s, eq-eqb (length s - from.at) 0 z)) (refl, stores-none (altered-none 0 o) (omega arith), (g, refl, b))

  module _ {o' : List ℕ} {r : Result answer.Section Refused} (h : from.at < length s) (few : from.long ≤ from.at) (w : Sectioned s (section form from (drop from.at s)) false false 0 o o' r) where
    pub trailers-no : {x : Refused} → r ≡ Err x → Trailed s (trailers form body from (drop from.at s)) o o' (Err x)
    unfolding trailers ◌>>=◌
    trailers-no e = trailed-no refl (rw (some_left s from.at h, section-no w e))

    within : from.at ≤ length s
    within = omega (arith, h)

    module _ {u : answer.Section} (e : r ≡ Ok u) where
      done : SectionDone s (section form from (drop from.at s)) false false 0 o o' u
      done = section-done w (section-lines form s from within few) e

      module _ {t : Bool} (q : t ≡ trailers_agree u.notes.trailers body u.kept) where
        judged : {b : Bool} → t ≡ b → trailer_rule body done.read ≡ cond b (good done.read.lines) (wrong bad_length u.end.at)
        unfolding trailer_rule kept_trailers
        judged {b} g =
            let d = done in
            let c : length (end_to_end false d.read.lines) ≡ u.kept = omega (arith, d.count) in
            let n : are_trailers d.read.lines ≡ u.notes.trailers = trailers-noted false d.read.lines ∙ ap (λ (n : Notes). n.trailers) (sym d.noted) in
            rw (n, c, ← q, g, d.end)

        pub trailers-good : t ≡ true → Trailed s (trailers form body from (drop from.at s)) o o' (trailers-are u.end u.kept)
        unfolding kept_trailers
        trailers-good g =
            let d = done in
            let c : u.kept ≡ length (end_to_end false d.read.lines) = omega (arith, d.count) in
            trailed-as {y = got d.read.lines u.end (drop u.end.at s)} (section-then s from form body h d.gives (judged g)) (ap (trailers-are u.end) c, d.stored, (d.within, refl, d.counted))

        pub trailers-bad : {x : Refused} → x ≡ refused_at bad_length u.end.at → t ≡ false → Trailed s (trailers form body from (drop from.at s)) o o' (Err x)
        trailers-bad p g = trailed-no p (section-then s from form body h done.gives (judged g))

-- ---- what the caller learns

pub record TrailersDone (s : List ℕ) (x : Got (List FieldRead)) (o o' : List ℕ) (q : TrailersRead) : Type 0 where
  pub lines : List FieldRead
  pub taken : x ≡ got lines q.end (drop q.end.at s)
  pub counted : length (kept_trailers lines) ≡ q.kept
  pub stored : Stores o 0 (fields_numbers (kept_trailers lines)) o'
  pub within : q.end.at ≤ length s

module _ {s : List ℕ} {x : Got (List FieldRead)} {o o' : List ℕ} {r : Result TrailersRead Refused} (h : Trailed s x o o' r) where
  pub trailed-refused : {e : Refused} → r ≡ Err e → x ≡ no e.number e.place
  trailed-refused {e} q = go x h.says
    where
      go : (y : Got (List FieldRead)) → TrailersSays s y o o' r → y ≡ no e.number e.place
      go (got a i l) d = let f = d.0 in cc
      go (no m k) d = let z : refused_at m k ≡ e = cc in ap (λ (f : Refused). no f.number f.place) z

  pub trailed-done : {q : TrailersRead} → r ≡ Ok q → TrailersDone s x o o' q
  trailed-done {q} e = go x h.says
    where
      go : (y : Got (List FieldRead)) → TrailersSays s y o o' r → TrailersDone s y o o' q
      go (got a i l) d =
          let f = d.0 in
          let z : ◌≡◌ {A = TrailersRead} (record { end = i; kept = length (kept_trailers a) }) q = cc in
          subst (λ (q : TrailersRead). TrailersDone s (got a i l) o o' q) z
          (record { lines = a; taken = ap (λ (m : List ℕ). got a i m) d.2.1; counted = refl; stored = d.1; within = d.2.0 })
      go (no m k) d = let z : ◌≡◌ {A = ℕ} 0 1 = cc in absurd (omega arith)
