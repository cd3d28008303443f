-- Parts of control data that are judged when they are in.
use Prim.Native.Nat.{ℕ, ◌-◌, ◌<◌, ◌≤◌}
use mathlib.Core.Path.{◌≡◌, refl, sym, ap, ◌∙◌, subst}
use mathlib.Core.List.{List}
use mathlib.Core.Bool.{true, false}
use native.Mathlib.Omega.{arith}
use lib.ListN.{length, take, drop}
use Rattle.std.proofs.Common.{Result, Ok, Err}
use Rattle.octets.specs.Ascii.{ascii}
use Rattle.octets.specs.Text.{same_text}
use Rattle.octets.specs.Refusals.{not_supported, refusal_number, refused_at}
use Rattle.octets.specs.declared.Refusal.{Refusal}
use Rattle.octets.specs.declared.Refused.{Refused}
use Rattle.messages.specs.Control.{Verdict}
use Rattle.binary.specs.declared.Cursor.{Cursor}
use Rattle.binary.specs.Reader.{Got, got, no, ◌>>=◌}
use Rattle.binary.specs.Read.{part, part_within, ruled_part, scheme_of, scheme_part}
use Rattle.binary_parts.specs.Control.{Parted, SchemeSays, Schemed, piece_of}
use Rattle.binary_parts.specs.declared.PartRead.{PartRead}
use Rattle.binary_parts.specs.declared.SchemeRead.{SchemeRead}
use Rattle.binary_parts.proofs.Places.{parted-no, parted-found, part_no, part-got, part-text}

-- ---- a rule by its verdict

module _ (s : List ℕ) (from : Cursor) (most : ℕ) (verdict : List ℕ → Verdict) {m : ℕ} (k : m ≡ most) {r : Result PartRead Refused}
    (h : Parted s (part_within m from (drop from.at s)) r) where
  within : Parted s (part_within most from (drop from.at s)) r
  within = subst (λ (y : ℕ). Parted s (part_within y from (drop from.at s)) r) k h

  pub ruled-no : {e : Refused} → r ≡ Err e → Parted s (ruled_part most verdict from (drop from.at s)) (Err e)
  unfolding ruled_part ◌>>=◌
  ruled-no e = parted-no refl (rw (part_no within e))

  module _ {q : PartRead} (e : r ≡ Ok q) {v : Verdict} (j : v ≡ verdict (take (q.end.at - q.part.start) (drop q.part.start s))) where
    judged : verdict (piece_of s q.part).text ≡ v
    judged = ap verdict (sym (part-text within e)) ∙ sym j

    pub ruled-good : {u : Unit {0}} → v ≡ Ok u → Parted s (ruled_part most verdict from (drop from.at s)) (Ok q)
    unfolding ruled_part ◌>>=◌
    ruled-good z = let d = part-got within e in parted-found d.inside d.behind d.few (rw (d.taken, judged, z))

    pub ruled-bad : {w : Refusal} {f : Refused} → f ≡ refused_at (refusal_number w) from.at → v ≡ Err w → Parted s (ruled_part most verdict from (drop from.at s)) (Err f)
    unfolding ruled_part ◌>>=◌
    ruled-bad o z = parted-no o (rw ((part-got within e).taken, judged, z))

-- ---- the scheme

schemed-as : {s : List ℕ} {x y : Got ℕ} {r : Result SchemeRead Refused} → x ≡ y → Schemed s y r → Schemed s x r
schemed-as {s} {r = r} e h = subst (λ (z : Got ℕ). Schemed s z r) (sym e) h

schemed-refused : {s : List ℕ} {x : Got ℕ} {n p : ℕ} {e : Refused} → e ≡ refused_at n p → x ≡ no n p → Schemed s x (Err e)
schemed-refused q h = schemed-as h (record { says = rw q })

schemed-found : {s : List ℕ} {x : Got ℕ} {q : SchemeRead} → q.scheme < 2 → q.end.at ≤ length s → q.end.long ≤ q.end.at → x ≡ got q.scheme q.end (drop q.end.at s)
    → Schemed s x (Ok q)
schemed-found g h f e = schemed-as e (record { says = (refl, g, (h, refl, f)) })

module _ (s : List ℕ) (from : Cursor) {r : Result PartRead Refused} (h : Parted s (part from (drop from.at s)) r) where
  pub scheme-no : {e : Refused} → r ≡ Err e → Schemed s (scheme_part from (drop from.at s)) (Err e)
  unfolding scheme_part ◌>>=◌
  scheme-no e = schemed-refused refl (rw (part_no h e))

  module _ {q : PartRead} (e : r ≡ Ok q) where
    within-end : q.end.at ≤ length s
    within-end = omega (arith, (part-got h e).inside, (part-got h e).behind)

    pub scheme-http : same_text (take (q.end.at - q.part.start) (drop q.part.start s)) (ascii "http") ≡ true
        → Schemed s (scheme_part from (drop from.at s)) (Ok (record { scheme = 0; end = q.end }))
    unfolding scheme_part ◌>>=◌ scheme_of
    scheme-http z = let z' = rw (part-text h e) at z in
        schemed-found (omega arith) within-end (part-got h e).few (rw ((part-got h e).taken, z'))

    module _ (o : same_text (take (q.end.at - q.part.start) (drop q.part.start s)) (ascii "http") ≡ false) where
      pub scheme-https : same_text (take (q.end.at - q.part.start) (drop q.part.start s)) (ascii "https") ≡ true
          → Schemed s (scheme_part from (drop from.at s)) (Ok (record { scheme = 1; end = q.end }))
      unfolding scheme_part ◌>>=◌ scheme_of
      scheme-https z = let o' = rw (part-text h e) at o in let z' = rw (part-text h e) at z in
          schemed-found (omega arith) within-end (part-got h e).few (rw ((part-got h e).taken, o', z'))

      pub scheme-other : {f : Refused} → f ≡ refused_at not_supported from.at → same_text (take (q.end.at - q.part.start) (drop q.part.start s)) (ascii "https") ≡ false
          → Schemed s (scheme_part from (drop from.at s)) (Err f)
      unfolding scheme_part ◌>>=◌ scheme_of
      scheme-other p z = let o' = rw (part-text h e) at o in let z' = rw (part-text h e) at z in
          schemed-refused p (rw ((part-got h e).taken, o', z'))

-- ---- what the caller learns

-- a scheme that was read of s, where the reader answers x
pub record SchemeDone (s : List ℕ) (x : Got ℕ) (q : SchemeRead) : Type 0 where
  pub taken : x ≡ got q.scheme q.end (drop q.end.at s)
  pub small : q.scheme < 2
  pub within : q.end.at ≤ length s
  pub few : q.end.long ≤ q.end.at

module _ {s : List ℕ} {x : Got ℕ} {r : Result SchemeRead Refused} (h : Schemed s x r) where
  pub schemed-no : {e : Refused} → r ≡ Err e → x ≡ no e.number e.place
  schemed-no {e} q = go x h.says
    where
      go : (y : Got ℕ) → SchemeSays s y r → y ≡ no e.number e.place
      go (got v i l) d = let f = d.0 in cc
      go (no m k) d = let z : refused_at m k ≡ e = cc in ap (λ (f : Refused). no f.number f.place) z

  pub schemed-got : {q : SchemeRead} → r ≡ Ok q → SchemeDone s x q
  schemed-got {q} e = go x h.says
    where
      go : (y : Got ℕ) → SchemeSays s y r → SchemeDone s y q
      go (got v i l) d =
          let f = d.0 in
          let z : ◌≡◌ {A = SchemeRead} (record { scheme = v; end = i }) q = cc in
          subst (λ (w : SchemeRead). SchemeDone s (got v i l) w) z
          (record { taken = ap (λ (m : List ℕ). got v i m) d.2.1; small = d.1; within = d.2.0; few = d.2.2 })
      go (no m k) d = let z : ◌≡◌ {A = ℕ} 0 1 = cc in absurd (omega arith)
