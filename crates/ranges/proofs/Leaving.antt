-- What is left of the lines of a section that were gathered, when the fields that Connection lines name are dropped (`Kept`): from the numbers of entries to the lines.
use Prim.Native.Nat.{ℕ, zero, suc, ◌+◌, ◌-◌, ◌*◌, ◌<◌, ◌≤◌}
use mathlib.Core.Path.{◌≡◌, refl, sym, ap, ap₂, ◌∙◌}
use mathlib.Core.Bool.{Bool, true, false, cond}
use mathlib.Core.List.{List, [], ◌∷◌, ◌++◌, map}
use native.Mathlib.Nat.{add-zero}
use native.Mathlib.Omega.{arith}
use lib.ListN.{length, get_or, length-map}
use Rattle.octets.specs.Text.{lower_of}
use Rattle.script.specs.Script.{Lies}
use Rattle.script.proofs.Places.{lies_in, lies-all, lies-from}
use Rattle.output.specs.Splice.{elements, part}
use Rattle.output.proofs.Laws.{elements-length, elements-take}
use Rattle.messages.specs.Message.{FieldRead}
use Rattle.messages.specs.Room.{section_room}
use Rattle.messages.specs.Connection.{is_named}
use Rattle.messages.specs.Names.{lines_of, end_to_end, connection_values, unnamed, kept}
use Rattle.messages.specs.Answers.{field_numbers, fields_numbers}
use Rattle.messages.specs.declared.Kind.TheVariants as kind
use Rattle.messages.proofs.Noting.{kept-unnamed}
use Rattle.sound.specs.Placed.{Each, OfLine, Lying, Inside}
use Rattle.sound.proofs.Each.{each_of, each-end-to-end}
use Rattle.ranges.specs.Ranges.{Stores}
use Rattle.ranges.specs.Entries.{field_in, entry_of, fields_in}
use Rattle.ranges.specs.Connections.{connection_at, ConnectionsStand, values_in, ValuesFrom, Dropped, GatheredFacts, LinesGathered, Kept}
use Rattle.ranges.proofs.Storing.{altered-then}
use Rattle.ranges.proofs.Gathering.{gathered-few}
use Rattle.ranges.proofs.Entries.{lies-is, fields-are}

-- ---- entries and lines

-- the numbers of lines are those of their entries
numbers-entries : (fs : List FieldRead) → fields_numbers (map entry_of fs) ≡ fields_numbers fs
unfolding fields_numbers
numbers-entries [] = refl
numbers-entries (f ∷ fs) = ap (λ (l : List ℕ). field_numbers f ++ l) (numbers-entries fs)

-- and so are their names
unnamed-entries : (vs : List (List ℕ)) (fs : List FieldRead) → unnamed vs (map entry_of fs) ≡ map entry_of (unnamed vs fs)
unfolding unnamed
unnamed-entries vs [] = refl
unnamed-entries vs (f ∷ fs) = go (is_named vs (map lower_of f.name.text)) (unnamed-entries vs fs)
  where
    go : (t : Bool) → unnamed vs (map entry_of fs) ≡ map entry_of (unnamed vs fs)
        → cond t (unnamed vs (map entry_of fs)) (entry_of f ∷ unnamed vs (map entry_of fs)) ≡ map entry_of (cond t (unnamed vs fs) (f ∷ unnamed vs fs))
    go true e = e
    go false e = ap (◌∷◌ (entry_of f)) e

-- entries of lines that lie in s are within it
entries-inside : (s : List ℕ) (fs : List FieldRead) → Each (OfLine (Lying s)) fs → Each (OfLine (Inside (length s))) (map entry_of fs)
entries-inside s [] h = tt
entries-inside s (f ∷ fs) h = (record { name = lies_in h.0.name; value = lies_in h.0.value }, entries-inside s fs h.1)

-- ---- the numbers that entries have

elements-append : {A : Type 0} (d : A) (l : List A) (from m n : ℕ) → elements d l from (m + n) ≡ elements d l from m ++ elements d l (from + m) n
elements-append d l from zero n =
    let z : from + 0 ≡ from = add-zero from in
    let y : 0 + n ≡ n = omega arith in
    rw (z, y)
elements-append d l from (suc m) n =
    let z : from + suc m ≡ from + 1 + m = omega arith in
    let y : suc m + n ≡ suc (m + n) = omega arith in
    rw (z, y) (ap (◌∷◌ (get_or l from d)) (elements-append d l (from + 1) m n))

module _ (s o : List ℕ) where
  field-numbers : (k : ℕ) → field_numbers (field_in s o k) ≡ part o (k * 4) 4
  field-numbers k =
      let a : k * 4 + 2 ≡ k * 4 + 1 + 1 = omega arith in
      let b : k * 4 + 3 ≡ k * 4 + 1 + 1 + 1 = omega arith in
      rw (elements-length 0 s (get_or o (k * 4) 0) (get_or o (k * 4 + 1) 0), elements-length 0 s (get_or o (k * 4 + 2) 0) (get_or o (k * 4 + 3) 0), a, b)

  numbers-in : (k n : ℕ) → fields_numbers (fields_in s o k n) ≡ part o (k * 4) (n * 4)
  unfolding fields_numbers fields_in
  numbers-in k zero = refl
  numbers-in k (suc n) =
      let z : (k + 1) * 4 ≡ k * 4 + 4 = omega arith in
      let e : suc n * 4 ≡ 4 + n * 4 = omega arith in
      ap₂ ◌++◌ (field-numbers k) (numbers-in (k + 1) n ∙ ap (λ (a : ℕ). part o a (n * 4)) z)
      ∙ sym (ap (part o (k * 4)) e ∙ elements-append 0 o (k * 4) 4 (n * 4))

  fields-length : (k n : ℕ) → length (fields_in s o k n) ≡ n
  unfolding fields_in
  fields-length k zero = refl
  fields-length k (suc n) = ap suc (fields-length (k + 1) n)

-- what a part of o is lies there
lies-itself : (o : List ℕ) (a n : ℕ) → a + n ≤ length o → Lies o a (part o a n)
lies-itself o a n h =
    let z : 0 + a ≡ a = omega arith in
    rw (elements-take 0 o a n h) (rw z at (lies-from a n (omega arith) (lies-all o)))

-- ---- the values that Connection lines have

module _ (s : List ℕ) (k : ℕ) (o : List ℕ) where
  values-are : (i : ℕ) (cs : List FieldRead) → ConnectionsStand k i cs o → Each (OfLine (Lying s)) cs → values_in s o k i (length cs) ≡ map (λ f. f.value.text) cs
  unfolding values_in
  values-are i [] y h = refl
  values-are i (c ∷ cs) y h = rw (y.0, y.1, lies-is h.0.value, values-are (i + 1) cs y.2 h.1)

  values-inside : (i : ℕ) (cs : List FieldRead) → ConnectionsStand k i cs o → Each (OfLine (Lying s)) cs → (j : ℕ) → j < length cs
      → get_or o (connection_at k (i + j)) 0 + get_or o (connection_at k (i + j) + 1) 0 ≤ length s
  values-inside i [] y h j l = absurd (omega arith)
  values-inside i (c ∷ cs) y h zero l = let z : i + 0 ≡ i = add-zero i in rw z (omega (arith, y.0, y.1, lies_in h.0.value))
  values-inside i (c ∷ cs) y h (suc j) l =
      let z : i + suc j ≡ i + 1 + j = omega arith in
      rw z (values-inside (i + 1) cs y.2 h.1 j (omega arith))

-- ---- lines that were gathered

module _ {s : List ℕ} {host : Bool} {k : ℕ} {fs : List FieldRead} {count n : ℕ} {w o : List ℕ} (g : GatheredFacts s host k fs count n w o) where
  abbrev es : List FieldRead
  es = end_to_end host fs

  abbrev cs : List FieldRead
  cs = lines_of kind.Connection fs

  -- their entries
  entries : fields_in s o k (count - k) ≡ map entry_of es
  entries =
      let z : count - k ≡ length es = omega (arith, g.fields) in
      rw z (fields-are s o k es (record { numbers = g.gathered.fields.lies; lie = each-end-to-end (OfLine (Lying s)) host fs g.lying }))

  -- the values of their Connection lines
  values : values_in s o k 0 n ≡ connection_values fs
  unfolding connection_values
  values = rw (sym g.lines) (values-are s k o 0 cs g.gathered.connections (each_of (OfLine (Lying s)) kind.Connection fs g.lying))

  pub gathered-values : k * 4 + section_room ≤ length o → ValuesFrom s k count n o
  gathered-values room =
      let f = gathered-few host fs in
      record {
        fields = record {
          least = omega (arith, g.fields);
          room = omega (arith, g.fields, f, g.few);
          inside = rw entries (entries-inside s es (each-end-to-end (OfLine (Lying s)) host fs g.lying));
        };
        behind = omega (arith, g.fields, g.lines, f, g.few);
        room = room;
        inside = λ i h. let z : 0 + i ≡ i = omega arith in
            rw z at (values-inside s k o 0 cs g.gathered.connections (each_of (OfLine (Lying s)) kind.Connection fs g.lying) i (omega (arith, g.lines)));
      }

  -- nothing is dropped where there is no Connection line, nor in trailers
  left-all : (gs : List FieldRead) → gs ≡ es → (count ≡ k + length gs) × Stores w (k * 4) (fields_numbers gs) o
  left-all gs e = rw e (sym g.fields, g.gathered.fields)

  none_named : n ≡ 0 → kept host fs ≡ es
  none_named e = kept-unnamed host fs (empty cs (g.lines ∙ e))
    where
      empty : (l : List FieldRead) → length l ≡ 0 → l ≡ []
      empty [] h = refl
      empty (x ∷ l) h = absurd (omega arith)

  -- what is named is dropped
  left-unnamed : {o' : List ℕ} {r : ℕ} → k * 4 + section_room ≤ length o → Dropped s k count (unnamed (values_in s o k 0 n) (fields_in s o k (count - k))) o o' r
      → (r ≡ k + length (kept host fs)) × Stores w (k * 4) (fields_numbers (kept host fs)) o'
  unfolding kept
  left-unnamed {o'} {r} room d =
      let f = gathered-few host fs in
      let e : fields_in s o' k (r - k) ≡ map entry_of (unnamed (connection_values fs) es) =
      d.fields ∙ ap₂ unnamed values entries ∙ unnamed-entries (connection_values fs) es in
      let c : r - k ≡ length (unnamed (connection_values fs) es) = sym (fields-length s o' k (r - k)) ∙ ap length e ∙ length-map (unnamed (connection_values fs) es) entry_of in
      let q : fields_numbers (unnamed (connection_values fs) es) ≡ part o' (k * 4) ((r - k) * 4) =
      sym (numbers-entries (unnamed (connection_values fs) es)) ∙ ap fields_numbers (sym e) ∙ numbers-in s o' k (r - k) in (
        omega (arith, c, d.least),
        record {
          altered = altered-then g.gathered.fields.altered d.altered;
          lies = rw q (lies-itself o' (k * 4) ((r - k) * 4) (omega (arith, d.least, d.most, d.altered.size, g.fields, f, g.few)));
        },
      )

-- ---- what the code promises

module _ {s : List ℕ} {k count n : ℕ} {o : List ℕ} where
  pub named-dropped : {o' : List ℕ} {r : ℕ} {headers : Bool} → headers ≡ true → k * 4 + section_room ≤ length o
      → Dropped s k count (unnamed (values_in s o k 0 n) (fields_in s o k (count - k))) o o' r → Kept s headers k count n o o' r
  named-dropped e h d = rw e record { by = λ host fs w g. left-unnamed g h d }

  pub none_dropped : {headers : Bool} → headers ≡ true → n ≤ 0 → Kept s headers k count n o o count
  none_dropped e h = let z : n ≡ 0 = omega arith in rw e record { by = λ host fs w g. left-all g (kept host fs) (none_named g z) }

  pub trailers-left : {headers : Bool} → headers ≡ false → Kept s headers k count n o o count
  trailers-left e = rw e record { by = λ host fs w g. left-all g (end_to_end host fs) refl }

  pub values-gathered : LinesGathered s k count n o → k * 4 + section_room ≤ length o → ValuesFrom s k count n o
  values-gathered g h = gathered-values g.3 h
