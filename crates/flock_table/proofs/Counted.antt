-- The records of entries: of entries one behind the other, of those that pass a test, and of one flock; while there are at most 256 of them no sum wraps.
use Prim.Native.Nat.{ℕ, ◌+◌, ◌*◌, ◌-◌, ◌≤◌, ◌<◌}
use mathlib.Core.Path.{◌≡◌, refl, sym, ap, ◌∙◌}
use mathlib.Core.Bool.{Bool, true, false, cond}
use mathlib.Core.List.{List, [], ◌∷◌, ◌++◌, append-nil}
use native.Mathlib.Omega.{arith}
use borrow.Author.Tests.{eq-eqb, ne_eqb, leb-true}
use lib.Dec.{leb}
use lib.ListN.{length, get_or, set, length-append}
use Rattle.octets.specs.Limits.{binary_most}
use Rattle.octets.proofs.Kit.{no_true}
use Rattle.sound.specs.Placed.{Each}
use Rattle.bundle.specs.Bundle.{word_of, flock_of, is_flock, Entry, pick_if, is_of, of_flock}
use Rattle.flock_table.specs.declared.Flock.{Flock}
use Rattle.flock_table.specs.Table as spec
use Rattle.flock_table.specs.Table.{picked, is_undelivered, message_octets, record_of, totals, table_of, none}
use Rattle.flock_table.proofs.Tabulated.{tabulate-length, tabulate-at, tabulate-set}

pub flock-least : (f : ℕ) → is_flock f ≡ true → (1 ≤ f) × (f ≤ 127)
flock-least f e = go (leb 1 f) refl e
  where
    go : (b : Bool) → leb 1 f ≡ b → cond b (leb f 127) false ≡ true → (1 ≤ f) × (f ≤ 127)
    go true h g = (leb-true 1 f h, leb-true f 127 g)
    go false h g = absurd (no_true g)

-- ---- entries that pass a test

pick-append : (b : Bool) (e : Entry) (es fs : List Entry) → pick_if b e es ++ fs ≡ pick_if b e (es ++ fs)
pick-append true e es fs = refl
pick-append false e es fs = refl

pub picked-append : (p : Entry → Bool) (es fs : List Entry) → picked p (es ++ fs) ≡ picked p es ++ picked p fs
unfolding picked
picked-append p [] fs = refl
picked-append p (e ∷ es) fs = ap (pick_if (p e) e) (picked-append p es fs) ∙ sym (pick-append (p e) e (picked p es) (picked p fs))

-- a flock's entries are picked
pub of-picked : (f : ℕ) (es : List Entry) → of_flock f es ≡ picked (is_of f) es
unfolding picked of_flock
of-picked f [] = refl
of-picked f (e ∷ es) = ap (pick_if (is_of f e) e) (of-picked f es)

pub of-append : (f : ℕ) (es fs : List Entry) → of_flock f (es ++ fs) ≡ of_flock f es ++ of_flock f fs
of-append f es fs =
    of-picked f (es ++ fs) ∙ picked-append (is_of f) es fs ∙ ap (λ (l : List Entry). l ++ picked (is_of f) fs) (sym (of-picked f es))
    ∙ ap (λ (l : List Entry). of_flock f es ++ l) (sym (of-picked f fs))

pub picked-few : (p : Entry → Bool) (es : List Entry) → length (picked p es) ≤ length es
unfolding picked
picked-few p [] = omega arith
picked-few p (e ∷ es) = let h = go (p e) in omega (arith, h, picked-few p es)
  where
    go : (b : Bool) → length (pick_if b e (picked p es)) ≤ length (picked p es) + 1
    go true = omega arith
    go false = omega arith

pick-each : (P : Entry → Type 0) (b : Bool) (e : Entry) (es : List Entry) → P e → Each P es → Each P (pick_if b e es)
pick-each P true e es g h = (g, h)
pick-each P false e es g h = h

pub picked-each : (P : Entry → Type 0) (p : Entry → Bool) (es : List Entry) → Each P es → Each P (picked p es)
unfolding picked
picked-each P p [] h = tt
picked-each P p (e ∷ es) h = pick-each P (p e) e (picked p es) h.0 (picked-each P p es h.1)

-- ---- records added

abbrev pub both : Flock → Flock → Flock
both r s = record { entries = r.entries + s.entries; bytes = r.bytes + s.bytes; undelivered = r.undelivered + s.undelivered }

octets-append : (es fs : List Entry) → message_octets (es ++ fs) ≡ message_octets es + message_octets fs
unfolding message_octets
octets-append [] fs = omega arith
octets-append (e ∷ es) fs = let h = octets-append es fs in omega (arith, h)

pub record-append : (es fs : List Entry) → record_of (es ++ fs) ≡ both (record_of es) (record_of fs)
record-append es fs =
    let u : length (picked is_undelivered (es ++ fs)) ≡ length (picked is_undelivered es) + length (picked is_undelivered fs) =
    ap (λ (l : List Entry). length l) (picked-append is_undelivered es fs) ∙ length-append (picked is_undelivered es) (picked is_undelivered fs) in
    rw (length-append es fs, octets-append es fs, u)

-- ---- no sum wraps

-- a message is no longer than an entry's may be
abbrev pub Short : Entry → Type 0
Short e = length e.text ≤ binary_most

pub record Small (r : Flock) : Type 0 where
  pub entries : r.entries ≤ 256
  pub bytes : r.bytes ≤ 256 * 65535
  pub undelivered : r.undelivered ≤ 256

octets-most : (es : List Entry) → Each Short es → message_octets es ≤ length es * 65535
unfolding message_octets
octets-most [] h = omega arith
octets-most (e ∷ es) h = let i = octets-most es h.1 in omega (arith, i, h.0)

pub record-small : (es : List Entry) → Each Short es → length es ≤ 256 → Small (record_of es)
record-small es h l =
    record { entries = l; bytes = omega (arith, octets-most es h, l); undelivered = omega (arith, picked-few is_undelivered es, l) }

sum-plain : (a b : ℕ) → a + b < 4294967296 → spec.sum a b ≡ a + b
unfolding spec.sum
sum-plain a b h = omega (arith, h)

difference-plain : (a b : ℕ) → a + b < 4294967296 → spec.difference (a + b) b ≡ a
unfolding spec.difference
difference-plain a b h = omega (arith, h)

pub plus-exact : (r s : Flock) → Small (both r s) → spec.plus r s ≡ both r s
unfolding spec.plus
plus-exact r s h =
    rw (
      sum-plain r.entries s.entries (omega (arith, h.entries)),
      sum-plain r.bytes s.bytes (omega (arith, h.bytes)),
      sum-plain r.undelivered s.undelivered (omega (arith, h.undelivered)),
    )

pub minus-exact : (r s : Flock) → Small (both r s) → spec.minus (both r s) s ≡ r
unfolding spec.minus
minus-exact r s h =
    rw (
      difference-plain r.entries s.entries (omega (arith, h.entries)),
      difference-plain r.bytes s.bytes (omega (arith, h.bytes)),
      difference-plain r.undelivered s.undelivered (omega (arith, h.undelivered)),
    )

-- ---- a table

pub table-length : (es : List Entry) → length (table_of es) ≡ 127
unfolding table_of
table-length es = tabulate-length 127 1 (λ (f : ℕ). totals f es)

-- the record of a flock
pub table_at : (es : List Entry) (f : ℕ) → is_flock f ≡ true → get_or (table_of es) (f - 1) none ≡ totals f es
unfolding table_of
table_at es f h =
    let l = flock-least f h in
    let e : 1 + (f - 1) ≡ f = omega (arith, l.0) in
    tabulate-at 127 1 (f - 1) (λ (g : ℕ). totals g es) none (omega (arith, l.0, l.1)) ∙ ap (λ (g : ℕ). totals g es) e

pub totals-small : (f : ℕ) (es : List Entry) → Each Short es → length es ≤ 256 → Small (totals f es)
totals-small f es h l =
    rw (of-picked f es) (record-small (picked (is_of f) es) (picked-each Short (is_of f) es h) (omega (arith, picked-few (is_of f) es, l)))

-- one entry more, of its flock and of another
of_one : (f : ℕ) (e : Entry) → is_of f e ≡ true → of_flock f (e ∷ []) ≡ e ∷ []
unfolding of_flock
of_one f e h = rw h

of_none : (f : ℕ) (e : Entry) → is_of f e ≡ false → of_flock f (e ∷ []) ≡ []
unfolding of_flock
of_none f e h = rw h

pub each_last : (P : Entry → Type 0) (es : List Entry) (e : Entry) → Each P es → P e → Each P (es ++ e ∷ [])
each_last P [] e h g = (g, tt)
each_last P (x ∷ es) e h g = (h.0, each_last P es e h.1 g)

module _ (es : List Entry) (e : Entry) where
  pub totals-more : (f : ℕ) → is_of f e ≡ true → totals f (es ++ e ∷ []) ≡ both (totals f es) (record_of (e ∷ []))
  totals-more f h =
      ap record_of (of-append f es (e ∷ []) ∙ ap (λ (l : List Entry). of_flock f es ++ l) (of_one f e h)) ∙ record-append (of_flock f es) (e ∷ [])

  pub totals-same : (f : ℕ) → is_of f e ≡ false → totals f (es ++ e ∷ []) ≡ totals f es
  totals-same f h =
      ap record_of (of-append f es (e ∷ []) ∙ ap (λ (l : List Entry). of_flock f es ++ l) (of_none f e h) ∙ append-nil (of_flock f es))

  module _ (f : ℕ) (ef : flock_of (word_of e.head) ≡ f) (hf : is_flock f ≡ true) (h : Each Short es) (he : Short e) (l : length es < 256) where
    few : length (es ++ e ∷ []) ≤ 256
    few = omega (arith, length-append es (e ∷ []), l)

    -- its record in the table, exactly
    pub totals-plus : spec.plus (totals f es) (record_of (e ∷ [])) ≡ totals f (es ++ e ∷ [])
    totals-plus =
        let q = totals-more f (eq-eqb _ _ ef) in
        plus-exact (totals f es) (record_of (e ∷ [])) (rw q at (totals-small f (es ++ e ∷ []) (each_last Short es e h he) few)) ∙ sym q

    -- the table with one entry more
    pub table-plus : set (table_of es) (f - 1) (spec.plus (get_or (table_of es) (f - 1) none) (record_of (e ∷ []))) ≡ table_of (es ++ e ∷ [])
    unfolding table_of
    table-plus =
        let b = flock-least f hf in
        let k : 1 + (f - 1) ≡ f = omega (arith, b.0) in
        let n : spec.plus (get_or (table_of es) (f - 1) none) (record_of (e ∷ [])) ≡ totals (1 + (f - 1)) (es ++ e ∷ []) =
        ap (λ (r : Flock). spec.plus r (record_of (e ∷ []))) (table_at es f hf) ∙ totals-plus ∙ ap (λ (g : ℕ). totals g (es ++ e ∷ [])) (sym k) in
        ap (λ (r : Flock). set (table_of es) (f - 1) r) n
        ∙ tabulate-set 127 1 (f - 1) (λ (g : ℕ). totals g es) (λ (g : ℕ). totals g (es ++ e ∷ [])) (omega (arith, b.0, b.1))
        (λ j no. sym (totals-same j (ne_eqb _ _ (λ q. no (sym q ∙ ef ∙ sym k)))))
