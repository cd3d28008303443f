-- A section's lines gathered in lent ranges one after the other: what the loops of both readers say of the array (`Gathered`).
use Prim.Native.Nat.{ℕ, suc, ◌+◌, ◌-◌, ◌*◌, ◌<◌, ◌≤◌}
use mathlib.Core.Path.{◌≡◌, refl, sym, ap, ◌∙◌}
use mathlib.Core.Bool.{Bool, true, false, cond}
use mathlib.Core.List.{List, [], ◌∷◌, ◌++◌, append-nil}
use native.Mathlib.Nat.{add-zero}
use native.Mathlib.Omega.{arith}
use lib.ListN.{length, get_or, set, drop, length-append, length-set}
use lib.Seq.{get_or-drop, get_or-set_same, get_or-set_other}
use Rattle.octets.specs.Limits.{lines_most}
use Rattle.octets.proofs.Kit.{no_true}
use Rattle.output.specs.Splice.{splice}
use Rattle.messages.specs.Message.{FieldRead}
use Rattle.messages.specs.Room.{section_room}
use Rattle.messages.specs.Names.{line_kind, same_kind, lines_of, is_end_to_end, end_to_end}
use Rattle.messages.specs.Notes.{is_noted}
use Rattle.messages.specs.Answers.{field_numbers, fields_numbers}
use Rattle.messages.specs.declared.Kind.{Kind}
use Rattle.messages.specs.declared.Kind.TheVariants as kind
use Rattle.messages.proofs.Noting.{lines_more, end-to-end-append}
use Rattle.ranges.specs.Ranges.{StoredIf, Stores}
use Rattle.ranges.specs.Connections.{connection_at, ConnectionsStand, Gathered}
use Rattle.ranges.proofs.Stored.{numbers-append, numbers-length}
use Rattle.ranges.proofs.Storing.{splice-back, altered-none, altered-splice, stores-none, stores-behind, stores-more}

-- ---- how many there are

-- a Connection line is not end-to-end: no line is counted twice
pub gathered-few : (host : Bool) (fs : List FieldRead) → length (end_to_end host fs) + length (lines_of kind.Connection fs) ≤ length fs
unfolding end_to_end lines_of same_kind
gathered-few host [] = omega arith
gathered-few host (f ∷ fs) = go (line_kind f) (gathered-few host fs)
  where
    es : List FieldRead
    es = end_to_end host fs

    cs : List FieldRead
    cs = lines_of kind.Connection fs

    go : (k : Kind) → length es + length cs ≤ length fs
        → length (cond (is_end_to_end host k) (f ∷ es) es) + length (cond (same_kind k kind.Connection) (f ∷ cs) cs) ≤ suc (length fs)
    go kind.Ordinary h = omega arith
    go kind.HopByHop h = omega arith
    go kind.Host h = pick host
      where
        pick : (b : Bool) → length (cond b (f ∷ es) es) + length cs ≤ suc (length fs)
        pick true = omega arith
        pick false = omega arith
    go kind.ContentLength h = omega arith
    go kind.TransferEncoding h = omega arith
    go kind.Connection h = omega arith

-- ---- the numbers of Connection values

-- what is the same from a place on is the same at each place behind it
pub at_same : (o o' : List ℕ) (b j : ℕ) → b ≤ j → drop b o' ≡ drop b o → get_or o' j 0 ≡ get_or o j 0
at_same o o' b j h e =
    let q : b + (j - b) ≡ j = omega arith in
    ap (λ (n : ℕ). get_or o' n 0) (sym q) ∙ sym (get_or-drop b o' (j - b) 0) ∙ ap (λ (l : List ℕ). get_or l (j - b) 0) e ∙ get_or-drop b o (j - b) 0
    ∙ ap (λ (n : ℕ). get_or o n 0) q

-- where nothing is altered from the last of them on, they stand as before
pub stand-same : (o o' : List ℕ) (k i : ℕ) (cs : List FieldRead) (b : ℕ) → drop b o' ≡ drop b o → b + (i + length cs) * 2 ≤ k * 4 + section_room
    → ConnectionsStand k i cs o → ConnectionsStand k i cs o'
stand-same o o' k i [] b e h y = tt
stand-same o o' k i (c ∷ cs) b e h y = (
  at_same o o' b (connection_at k i) (omega arith) e ∙ y.0,
  at_same o o' b (connection_at k i + 1) (omega arith) e ∙ y.1,
  stand-same o o' k (i + 1) cs b e (omega arith) y.2,
)

-- one more
stand-last : (o : List ℕ) (k i : ℕ) (cs : List FieldRead) (c : FieldRead) → ConnectionsStand k i cs o
    → get_or o (connection_at k (i + length cs)) 0 ≡ c.value.place → get_or o (connection_at k (i + length cs) + 1) 0 ≡ length c.value.text
    → ConnectionsStand k i (cs ++ c ∷ []) o
stand-last o k i [] c y p n = let z : i + 0 ≡ i = add-zero i in (rw z at p, rw z at n, tt)
stand-last o k i (d ∷ cs) c y p n =
    let z : i + suc (length cs) ≡ i + 1 + length cs = omega arith in
    (y.0, y.1, stand-last o k (i + 1) cs c y.2 (rw z at p) (rw z at n))

-- two numbers that are stored, found again
two-stored : (o : List ℕ) (a x y : ℕ) → a + 2 ≤ length o → (get_or (splice o a (x ∷ y ∷ [])) a 0 ≡ x) × (get_or (splice o a (x ∷ y ∷ [])) (a + 1) 0 ≡ y)
two-stored o a x y h = (
  get_or-set_other (set o a x) (a + 1) a y 0 (λ e. omega arith) ∙ get_or-set_same o a x 0 (omega arith),
  get_or-set_same (set o a x) (a + 1) y 0 (rw (length-set o a x) (omega arith)),
)

-- stored where a line is a Connection line, as `store` takes the place, or nothing
pub connection-stored : (o : List ℕ) (k n x y : ℕ) (t : Bool) {r : Bool} {o' : List ℕ} → n < lines_most → r ≡ t → r ≡ true
    → o' ≡ splice o (((k + lines_most) * 2 - (n + 1)) * 2) (x ∷ y ∷ []) → o' ≡ cond t (splice o (connection_at k n) (x ∷ y ∷ [])) o
connection-stored o k n x y t h e p q =
    let z : ((k + lines_most) * 2 - (n + 1)) * 2 ≡ connection_at k n = omega arith in
    rw (sym e ∙ p) (q ∙ ap (λ (a : ℕ). splice o a (x ∷ y ∷ [])) z)

pub connection-unstored : (o l : List ℕ) (t : Bool) {r : Bool} → r ≡ t → r ≡ false → o ≡ cond t l o
connection-unstored o l t e p = rw (sym e ∙ p)

-- ---- the loops of both readers

-- no lines yet
pub gathered_none : (host : Bool) (k : ℕ) (o : List ℕ) → k * 4 ≤ length o → Gathered host k [] o o
unfolding end_to_end lines_of fields_numbers
gathered_none host k o h = record { fields = stores-none (altered-none (k * 4) o) h; connections = tt }

-- a Connection line is not end-to-end
connection-not : (host : Bool) (c : Kind) → same_kind c kind.Connection ≡ true → is_end_to_end host c ≡ false
unfolding same_kind
connection-not host kind.Ordinary e = cc
connection-not host kind.HopByHop e = refl
connection-not host kind.Host e = cc
connection-not host kind.ContentLength e = refl
connection-not host kind.TransferEncoding e = refl
connection-not host kind.Connection e = refl

-- and something is noted of it
unnoted : (c : Kind) → is_noted c ≡ false → same_kind c kind.Connection ≡ false
unfolding same_kind
unnoted kind.Ordinary e = refl
unnoted kind.HopByHop e = refl
unnoted kind.Host e = refl
unnoted kind.ContentLength e = refl
unnoted kind.TransferEncoding e = refl
unnoted kind.Connection e = cc

end-to-end-more : (host : Bool) (fs : List FieldRead) (f : FieldRead) → end_to_end host (fs ++ f ∷ []) ≡ end_to_end host fs ++ cond (is_end_to_end host (line_kind f)) (f ∷ []) []
unfolding end_to_end
end-to-end-more host fs f = end-to-end-append host fs (f ∷ [])

module _ (host : Bool) (k : ℕ) (fs : List FieldRead) (f : FieldRead) {o o₁ : List ℕ} (g : Gathered host k fs o o₁) (few : length fs < lines_most)
    (room : k * 4 + section_room ≤ length o) where
  abbrev es : List FieldRead
  es = end_to_end host fs

  abbrev cs : List FieldRead
  cs = lines_of kind.Connection fs

  abbrev value : List ℕ
  value = f.value.place ∷ length f.value.text ∷ []

  -- with one line more: the fields b and the Connection lines c are the line itself, or none
  with-line : {o₃ : List ℕ} (b c : List FieldRead) → cond (is_end_to_end host (line_kind f)) (f ∷ []) [] ≡ b → cond (same_kind (line_kind f) kind.Connection) (f ∷ []) [] ≡ c
      → Stores o (k * 4) (fields_numbers es ++ fields_numbers b) o₃ → ConnectionsStand k 0 (cs ++ c) o₃ → Gathered host k (fs ++ f ∷ []) o o₃
  with-line b c p q x y = record {
    fields = rw (end-to-end-more host fs f, p, numbers-append es b) x;
    connections = rw (lines_more kind.Connection fs f, q) y;
  }

  -- a line that is no Connection line and no field that is kept; one that is kept; a Connection line
  with_none : is_end_to_end host (line_kind f) ≡ false → same_kind (line_kind f) kind.Connection ≡ false → Gathered host k (fs ++ f ∷ []) o o₁
  unfolding fields_numbers
  with_none p q = with-line [] [] (rw p) (rw q) (rw append-nil g.fields) (rw append-nil g.connections)

  with-field : {o₂ : List ℕ} (count : ℕ) → k + length es ≡ count → is_end_to_end host (line_kind f) ≡ true → same_kind (line_kind f) kind.Connection ≡ false
      → o₂ ≡ splice o₁ (count * 4) (field_numbers f) → Gathered host k (fs ++ f ∷ []) o o₂
  unfolding fields_numbers
  with-field {o₂} count n p q e =
      let z : count * 4 ≡ k * 4 + length (fields_numbers es) = omega (arith, numbers-length es) in
      let m = gathered-few host fs in
      with-line (f ∷ []) [] (rw p) (rw q)
      (stores-more (field_numbers f) g.fields (rw z at e) (omega (arith, numbers-length es)))
      (rw append-nil (stand-same o₁ o₂ k 0 cs (count * 4 + 4) (rw e (splice-back o₁ (count * 4) (count * 4 + 4) (field_numbers f) (omega arith))) (omega arith) g.connections))

  with-connection : {o₃ : List ℕ} (n : ℕ) → length cs ≡ n → is_end_to_end host (line_kind f) ≡ false → same_kind (line_kind f) kind.Connection ≡ true
      → o₃ ≡ splice o₁ (connection_at k n) value → Gathered host k (fs ++ f ∷ []) o o₃
  unfolding fields_numbers
  with-connection {o₃} n h p q e =
      let m = gathered-few host fs in
      let t = two-stored o₁ (connection_at k n) f.value.place (length f.value.text) (omega (arith, g.fields.altered.size)) in
      let z : 0 + length cs ≡ n = omega arith in
      with-line [] (f ∷ []) (rw p) (rw q)
      (rw append-nil (stores-behind {b = connection_at k n} g.fields (omega (arith, numbers-length es)) (rw e (altered-splice o₁ (connection_at k n) (connection_at k n) value (omega arith)))))
      (stand-last o₃ k 0 cs f (stand-same o₁ o₃ k 0 cs (connection_at k n + 2) (rw e (splice-back o₁ (connection_at k n) (connection_at k n + 2) value (omega arith))) (omega arith) g.connections)
      (rw (z, e) t.0) (rw (z, e) t.1))

  -- one line more: the array behind `keep`, which is given the number of fields so far, and behind `store_connection`, which is given that of Connection lines
  pub gathered-more : {o₂ o₃ : List ℕ} {count r n : ℕ} → k + length es ≡ count → length cs ≡ n → StoredIf (is_end_to_end host (line_kind f)) count (field_numbers f) o₁ o₂ r
      → o₃ ≡ cond (same_kind (line_kind f) kind.Connection) (splice o₂ (connection_at k n) value) o₂ → Gathered host k (fs ++ f ∷ []) o o₃
  gathered-more {o₂} {o₃} {count} {r} {n} c l x e = go (is_end_to_end host (line_kind f)) (same_kind (line_kind f) kind.Connection) refl refl x.stored e
    where
      go : (b t : Bool) → is_end_to_end host (line_kind f) ≡ b → same_kind (line_kind f) kind.Connection ≡ t → o₂ ≡ cond b (splice o₁ (count * 4) (field_numbers f)) o₁
          → o₃ ≡ cond t (splice o₂ (connection_at k n) value) o₂ → Gathered host k (fs ++ f ∷ []) o o₃
      go true true p q y z = absurd (no_true (sym (connection-not host (line_kind f) q) ∙ p))
      go true false p q y z = with-field count c p q (z ∙ y)
      go false true p q y z = with-connection n l p q (rw y at z)
      go false false p q y z = rw (z ∙ y) (with_none p q)

  -- the same, where nothing is noted of the line: it is no Connection line
  pub gathered-unnoted : {o₂ : List ℕ} {count r : ℕ} → k + length es ≡ count → StoredIf (is_end_to_end host (line_kind f)) count (field_numbers f) o₁ o₂ r
      → is_noted (line_kind f) ≡ false → Gathered host k (fs ++ f ∷ []) o o₂
  gathered-unnoted {o₂} c x e = gathered-more c refl x (rw (unnoted (line_kind f) e))

  -- how many fields there are then
  pub gathered-count : {o₂ : List ℕ} {count r : ℕ} → k + length es ≡ count → StoredIf (is_end_to_end host (line_kind f)) count (field_numbers f) o₁ o₂ r
      → k + length (end_to_end host (fs ++ f ∷ [])) ≡ r
  gathered-count {count = count} {r} c x = go (is_end_to_end host (line_kind f)) refl x.count
    where
      go : (b : Bool) → is_end_to_end host (line_kind f) ≡ b → r ≡ cond b (count + 1) count → k + length (end_to_end host (fs ++ f ∷ [])) ≡ r
      go true p y = rw (end-to-end-more host fs f, p) (omega (arith, length-append es (f ∷ [])))
      go false p y = rw (end-to-end-more host fs f, p, append-nil) (omega arith)

  -- room for it, and for the two numbers of a Connection line
  pub gathered-room : {count : ℕ} → k + length es ≡ count → count * 4 + 4 ≤ length o₁
  gathered-room c = omega (arith, gathered-few host fs, g.fields.altered.size)

  pub connection-room : {n : ℕ} → length cs ≡ n → n < lines_most
  connection-room l = omega (arith, gathered-few host fs)
