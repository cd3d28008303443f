-- Fields that are dropped by their names: the turns of the loops over entries, over the members of a value and over Connection values.
use Prim.Native.Nat.{ℕ, zero, suc, ◌+◌, ◌-◌, ◌*◌, ◌<◌, ◌≤◌}
use mathlib.Core.Path.{◌≡◌, refl, sym, ap, ap₂, ◌∙◌}
use mathlib.Core.Bool.{Bool, true, false, cond}
use mathlib.Core.List.{List, [], ◌∷◌, ◌++◌, map, append-nil}
use native.Mathlib.Nat.{add-zero}
use native.Mathlib.Omega.{arith}
use lib.ListN.{length, get_or, take, drop, length-map}
use lib.Seq.{get_or-take, set-get_or, drop-drop}
use Rattle.script.specs.Do.{piece}
use Rattle.octets.specs.Text.{lower_of, same_text}
use Rattle.octets.proofs.Texts.{same_length}
use Rattle.output.specs.Splice.{splice, part}
use Rattle.output.proofs.Laws.{elements-length, elements-take}
use Rattle.messages.specs.Message.{FieldRead}
use Rattle.messages.specs.Connection.{members, MemberFrom}
use Rattle.messages.specs.Names.{unnamed}
use Rattle.messages.specs.declared.Member.{Member}
use Rattle.messages.proofs.Members.{from_on, from_last, is-member}
use Rattle.messages.proofs.Unnamed.{lower_name, without, without-same, without_one, without_any, any_next, any_none, unnamed-one, unnamed-next, unnamed-none}
use Rattle.ranges.specs.Entries.{field_in, fields_in}
use Rattle.ranges.specs.Connections.{connection_at, values_in, without_name, FieldsFrom, ValuesFrom, Dropped}
use Rattle.sound.specs.Placed.{Each, OfLine, Inside}
use Rattle.sound.proofs.Each.{each-unnamed}
use Rattle.ranges.proofs.Storing.{splice_front, splice-back, altered-none, altered-then, altered-splice, stores-splice}
use Rattle.ranges.proofs.Gathering.{at_same}
use Rattle.ranges.proofs.Entries.{stores-part}

-- ---- the name of an entry

module _ (s ranges name : List ℕ) (k : ℕ) {len : ℕ} (e : len ≡ get_or ranges (k * 4 + 1) 0) where
  pub name-here : {start : ℕ} {r : Bool} → start ≡ get_or ranges (k * 4) 0 → get_or ranges (k * 4) 0 + get_or ranges (k * 4 + 1) 0 ≤ length s
      → r ≡ same_text (map lower_of name) (map lower_of (take (start + len - start) (drop start s)))
      → r ≡ same_text (map lower_of name) (map lower_of (field_in s ranges k).name.text)
  name-here {start} h w q =
      let z : start + len - start ≡ len = omega arith in
      let p : take (start + len - start) (drop start s) ≡ part s start len = rw z (sym (elements-take 0 s start len (omega (arith, e, h, w)))) in
      q ∙ rw (p, h, e)

  pub name-other : (len ≡ length name → ⊥) → false ≡ same_text (map lower_of name) (map lower_of (field_in s ranges k).name.text)
  name-other h =
      let t : List ℕ = (field_in s ranges k).name.text in
      let l : length t ≡ get_or ranges (k * 4 + 1) 0 = elements-length 0 s (get_or ranges (k * 4) 0) (get_or ranges (k * 4 + 1) 0) in
      sym (same_length (map lower_of name) (map lower_of t) (λ q. h (e ∙ sym l ∙ sym (length-map t lower_of) ∙ sym q ∙ length-map name lower_of)))

-- ---- an entry that is moved

pub splice-same : (o : List ℕ) (a n : ℕ) → splice o a (part o a n) ≡ o
splice-same o a zero = refl
splice-same o a (suc n) = ap (λ (l : List ℕ). splice l (a + 1) (part o (a + 1) n)) (set-get_or o a 0) ∙ splice-same o (a + 1) n

pub entry-stays : (o : List ℕ) (k i : ℕ) → k ≤ i → i ≤ k → o ≡ splice o (k * 4) (part o (i * 4) 4)
entry-stays o k i h g =
    let e : i ≡ k = omega arith in
    sym (rw e (splice-same o (k * 4) 4))

-- ---- the fields of entries

module _ (s : List ℕ) where
  -- the field of four numbers
  abbrev numbered : List ℕ → FieldRead
  numbered l =
      record {
        name = piece (get_or l 0 0) (part s (get_or l 0 0) (get_or l 1 0));
        value = piece (get_or l 2 0) (part s (get_or l 2 0) (get_or l 3 0));
        place = get_or l 0 0;
      }

  field-numbered : (o : List ℕ) (k : ℕ) → field_in s o k ≡ numbered (part o (k * 4) 4)
  field-numbered o k =
      let a : k * 4 + 2 ≡ k * 4 + 1 + 1 = omega arith in
      let b : k * 4 + 3 ≡ k * 4 + 1 + 1 + 1 = omega arith in
      rw (a, b)

  -- an entry that was moved names the same field
  field-moved : (o : List ℕ) (k i : ℕ) → k * 4 + 4 ≤ length o → field_in s (splice o (k * 4) (part o (i * 4) 4)) k ≡ field_in s o i
  field-moved o k i h =
      let l : List ℕ = part o (i * 4) 4 in
      field-numbered (splice o (k * 4) l) k ∙ ap numbered (stores-part {n = 4} (stores-splice {o = o} {l = l} refl h) refl) ∙ sym (field-numbered o i)

  -- entries whose numbers are the same
  field-same : (o o' : List ℕ) (k : ℕ) → ((j : ℕ) → k * 4 ≤ j → j < k * 4 + 4 → get_or o' j 0 ≡ get_or o j 0) → field_in s o' k ≡ field_in s o k
  field-same o o' k e =
      rw (
        e (k * 4) (omega arith) (omega arith),
        e (k * 4 + 1) (omega arith) (omega arith),
        e (k * 4 + 2) (omega arith) (omega arith),
        e (k * 4 + 3) (omega arith) (omega arith),
      )

  fields-same : (o o' : List ℕ) (k n : ℕ) → ((j : ℕ) → k * 4 ≤ j → j < (k + n) * 4 → get_or o' j 0 ≡ get_or o j 0) → fields_in s o' k n ≡ fields_in s o k n
  unfolding fields_in
  fields-same o o' k zero e = refl
  fields-same o o' k (suc n) e =
      ap₂ ◌∷◌ (field-same o o' k (λ j a b. e j a (omega arith))) (fields-same o o' (k + 1) n (λ j a b. e j (omega arith) (omega arith)))

  -- the last of them
  fields_snoc : (o : List ℕ) (k n : ℕ) → fields_in s o k (suc n) ≡ fields_in s o k n ++ field_in s o (k + n) ∷ []
  unfolding fields_in
  fields_snoc o k zero = let z : k + 0 ≡ k = add-zero k in rw z
  fields_snoc o k (suc n) =
      let z : k + suc n ≡ k + 1 + n = omega arith in
      rw z (ap (◌∷◌ (field_in s o k)) (fields_snoc o (k + 1) n))

  -- up to the entry i, and with that
  fields-next : (o : List ℕ) (k i : ℕ) → k ≤ i → fields_in s o k (i + 1 - k) ≡ fields_in s o k (i - k) ++ field_in s o i ∷ []
  fields-next o k i h =
      let z : i + 1 - k ≡ suc (i - k) = omega arith in
      let e : k + (i - k) ≡ i = omega arith in
      ap (fields_in s o k) z ∙ fields_snoc o k (i - k) ∙ ap (λ (j : ℕ). fields_in s o k (i - k) ++ field_in s o j ∷ []) e

  -- what holds of each holds of that at a place
  each-field : (o : List ℕ) (P : FieldRead → Type 0) (k n j : ℕ) → j < n → Each P (fields_in s o k n) → P (field_in s o (k + j))
  unfolding fields_in
  each-field o P k zero j h e = absurd (omega arith)
  each-field o P k (suc n) zero h e = let z : k + 0 ≡ k = add-zero k in rw z e.0
  each-field o P k (suc n) (suc j) h e =
      let z : k + suc j ≡ k + 1 + j = omega arith in
      rw z (each-field o P (k + 1) n j (omega arith) e.1)

-- ---- lines without those of a name

without_more : (w : List ℕ) (fs : List FieldRead) (f : FieldRead) → without_name w (fs ++ f ∷ []) ≡ without_name w fs ++ cond (same_text (map lower_of w) (map lower_of f.name.text)) [] (f ∷ [])
unfolding without_name
without_more w [] f = refl
without_more w (g ∷ fs) f = rw (without_more w fs f) (go (same_text (map lower_of w) (map lower_of g.name.text)) (without_name w fs) _)
  where
    go : (t : Bool) (xs ys : List FieldRead) → cond t (xs ++ ys) (g ∷ (xs ++ ys)) ≡ cond t xs (g ∷ xs) ++ ys
    go true xs ys = refl
    go false xs ys = refl

-- ---- turns of the loop over entries

at_front : (o o' : List ℕ) (b j : ℕ) → j < b → take b o' ≡ take b o → get_or o' j 0 ≡ get_or o j 0
at_front o o' b j h e = sym (get_or-take b o' j 0 h) ∙ ap (λ (l : List ℕ). get_or l j 0) e ∙ get_or-take b o j 0 h

drop-later : (o o' : List ℕ) (a b : ℕ) → a ≤ b → drop a o' ≡ drop a o → drop b o' ≡ drop b o
drop-later o o' a b h e =
    let z : a + (b - a) ≡ b = omega arith in
    ap (λ (n : ℕ). drop n o') (sym z) ∙ sym (drop-drop (b - a) a o') ∙ ap (drop (b - a)) e ∙ drop-drop (b - a) a o ∙ ap (λ (n : ℕ). drop n o) z

module _ (s name o : List ℕ) (base : ℕ) where
  -- what is left of the entries up to i
  abbrev pub LeftTo : ℕ → List ℕ → ℕ → Type 0
  LeftTo i o₁ k = Dropped s base i (without_name name (fields_in s o base (i - base))) o o₁ k

  pub drop-start : LeftTo base o base
  unfolding fields_in without_name
  drop-start =
      let z : base - base ≡ 0 = omega arith in
      record { fields = rw z; least = omega arith; most = omega arith; altered = altered-none (base * 4) o; behind = refl }

  pub drop_all : (i count : ℕ) {k : ℕ} {o₁ : List ℕ} → count ≤ i → i ≤ count → LeftTo i o₁ k → LeftTo count o₁ k
  drop_all i count h g d = let e : i ≡ count = omega arith in rw e at d

  module _ (i k : ℕ) (o₁ : List ℕ) (d : LeftTo i o₁ k) (h : base ≤ i) where
    -- the entry i is still as it was
    here : field_in s o₁ i ≡ field_in s o i
    here = field-same s o o₁ i (λ j a b. at_same o o₁ (i * 4) j a d.behind)

    next : without_name name (fields_in s o base (i + 1 - base))
        ≡ without_name name (fields_in s o base (i - base)) ++ cond (same_text (map lower_of name) (map lower_of (field_in s o₁ i).name.text)) [] (field_in s o₁ i ∷ [])
    next = ap (without_name name) (fields-next s o base i h) ∙ without_more name (fields_in s o base (i - base)) (field_in s o i)
        ∙ ap (λ (f : FieldRead). without_name name (fields_in s o base (i - base)) ++ cond (same_text (map lower_of name) (map lower_of f.name.text)) [] (f ∷ [])) (sym here)

    module _ {r : Bool} (e : r ≡ same_text (map lower_of name) (map lower_of (field_in s o₁ i).name.text)) where
      pub drop-it : r ≡ true → LeftTo (i + 1) o₁ k
      drop-it t = record {
        fields = d.fields ∙ sym (next ∙ rw (← e, t, append-nil));
        least = d.least;
        most = omega (arith, d.most);
        altered = d.altered;
        behind = drop-later o o₁ (i * 4) ((i + 1) * 4) (omega arith) d.behind;
      }

      pub keep-it : {o₂ : List ℕ} → r ≡ false → i * 4 + 4 ≤ length o₁ → o₂ ≡ splice o₁ (k * 4) (part o₁ (i * 4) 4) → LeftTo (i + 1) o₂ (k + 1)
      keep-it {o₂} t n q =
          let m = d.most in
          let l : List ℕ = part o₁ (i * 4) 4 in
          let front : take (k * 4) o₂ ≡ take (k * 4) o₁ = rw q (splice_front o₁ (k * 4) (k * 4) l (omega arith)) in
          let before : fields_in s o₂ base (k - base) ≡ fields_in s o₁ base (k - base) =
          fields-same s o₁ o₂ base (k - base) (λ j a b. at_front o₁ o₂ (k * 4) j (omega (arith, b, d.least)) front) in
          let moved : field_in s o₂ k ≡ field_in s o₁ i = rw q (field-moved s o₁ k i (omega arith)) in
          record {
            fields = fields-next s o₂ base k d.least ∙ ap₂ (λ (a : List FieldRead) (f : FieldRead). a ++ f ∷ []) (before ∙ d.fields) moved
                ∙ sym (next ∙ rw (← e, t));
            least = omega (arith, d.least);
            most = omega arith;
            altered = altered-then d.altered (rw q (altered-splice o₁ (base * 4) (k * 4) l (omega (arith, d.least))));
            behind = rw q (splice-back o₁ (k * 4) ((i + 1) * 4) l (omega arith)) ∙ drop-later o o₁ (i * 4) ((i + 1) * 4) (omega arith) d.behind;
          }

    -- its name lies within s
    pub name-inside : {count : ℕ} → FieldsFrom s base count o → i < count → get_or o₁ (i * 4) 0 + get_or o₁ (i * 4 + 1) 0 ≤ length s
    name-inside {count} f l =
        let z : base + (i - base) ≡ i = omega arith in
        let x : OfLine (Inside (length s)) (field_in s o i) = rw z at (each-field s o (OfLine (Inside (length s))) base (count - base) (i - base) (omega arith) f.inside) in
        let y : OfLine (Inside (length s)) (field_in s o₁ i) = rw here x in
        omega (arith, y.name, elements-length 0 s (get_or o₁ (i * 4) 0) (get_or o₁ (i * 4 + 1) 0))

-- ---- fields that are dropped one after the other

each-without : (P : FieldRead → Type 0) (w : List ℕ) (fs : List FieldRead) → Each P fs → Each P (without_name w fs)
unfolding without_name
each-without P w [] h = tt
each-without P w (f ∷ fs) h = go (same_text (map lower_of w) (map lower_of f.name.text)) (each-without P w fs h.1)
  where
    go : (t : Bool) → Each P (without_name w fs) → Each P (cond t (without_name w fs) (f ∷ without_name w fs))
    go true ih = ih
    go false ih = (h.0, ih)

module _ {s : List ℕ} {base count k : ℕ} {o o₁ : List ℕ} {gs : List FieldRead} (d : Dropped s base count gs o o₁ k) where
  -- what is left lies within s too
  fields-left : FieldsFrom s base count o → Each (OfLine (Inside (length s))) gs → FieldsFrom s base k o₁
  fields-left f e = record { least = d.least; room = omega (arith, d.most, d.altered.size, f.room); inside = rw d.fields e }

  -- more of them are dropped
  dropped-then : {o₂ : List ℕ} {r : ℕ} {hs : List FieldRead} → Dropped s base k hs o₁ o₂ r → Dropped s base count hs o o₂ r
  dropped-then {o₂} e = record {
    fields = e.fields;
    least = e.least;
    most = omega (arith, e.most, d.most);
    altered = altered-then d.altered e.altered;
    behind = drop-later o₁ o₂ (k * 4) (count * 4) (omega (arith, d.most)) e.behind ∙ d.behind;
  }

  -- what they are, said in other words
  dropped-as : {hs : List FieldRead} → gs ≡ hs → Dropped s base count hs o o₁ k
  dropped-as e = rw e at d

-- none yet
dropped-none : (s : List ℕ) (base count : ℕ) (o : List ℕ) → base ≤ count → Dropped s base count (fields_in s o base (count - base)) o o count
dropped-none s base count o h = record { fields = refl; least = h; most = omega arith; altered = altered-none (base * 4) o; behind = refl }

-- ---- turns of the loop over the members of a value

-- the octets of a member, as the code takes them
pub member-part : (v : List ℕ) (a n : ℕ) → take (a + n - a) (drop a v) ≡ take n (drop a v)
member-part v a n = let e : a + n - a ≡ n = omega arith in rw e

name-one : (w : List ℕ) (fs : List FieldRead) → without_name w fs ≡ without (λ f. same_text (map lower_of w) (lower_name f)) fs
unfolding without_name without
name-one w [] = refl
name-one w (f ∷ fs) = rw (name-one w fs) refl

-- what is left to do: the members from `from` on name those that are still to be dropped
pub record MembersLeft (s value o : List ℕ) (base count from : ℕ) (o₁ : List ℕ) (k : ℕ) : Type 0 where
  pub within : from ≤ length value
  pub fields : FieldsFrom s base k o₁
  pub done : Dropped s base count (fields_in s o₁ base (k - base)) o o₁ k
  pub left : without_any (members (drop from value)) (fields_in s o₁ base (k - base)) ≡ unnamed (value ∷ []) (fields_in s o base (count - base))

module _ (s value o : List ℕ) (base count : ℕ) where
  pub members-start : FieldsFrom s base count o → MembersLeft s value o base count 0 o count
  members-start f = record {
    within = omega arith;
    fields = f;
    done = dropped-none s base count o f.least;
    left = sym (unnamed-one value (fields_in s o base (count - base)));
  }

  module _ {from k r : ℕ} {o₁ o₂ w : List ℕ} {m : Member} (l : MembersLeft s value o base count from o₁ k) (f : MemberFrom value from m) (e : w ≡ take m.len (drop m.start value))
      (d : Dropped s base k (without_name w (fields_in s o₁ base (k - base))) o₁ o₂ r) where
    one : without_name w (fields_in s o₁ base (k - base)) ≡ without_one (take (m.end - from) (drop from value)) (fields_in s o₁ base (k - base))
    one = rw e (name-one (take m.len (drop m.start value)) (fields_in s o₁ base (k - base)) ∙ without-same _ _ (λ g. sym (is-member f (lower_name g))) (fields_in s o₁ base (k - base)))

    pub members-more : m.end < length value → MembersLeft s value o base count (m.end + 1) o₂ r
    members-more h = record {
      within = omega arith;
      fields = fields-left d l.fields (each-without (OfLine (Inside (length s))) w (fields_in s o₁ base (k - base)) l.fields.inside);
      done = dropped-then l.done (dropped-as d (sym d.fields));
      left = ap (without_any (members (drop (m.end + 1) value))) (d.fields ∙ one)
          ∙ sym (any_next (take (m.end - from) (drop from value)) (members (drop (m.end + 1) value)) (fields_in s o₁ base (k - base)))
          ∙ ap (λ (ms : List (List ℕ)). without_any ms (fields_in s o₁ base (k - base))) (sym (from_on f h)) ∙ l.left;
    }

    pub members-done : length value ≤ m.end → Dropped s base count (unnamed (value ∷ []) (fields_in s o base (count - base))) o o₂ r
    members-done h = dropped-then l.done (dropped-as d
        (one ∙ sym (any_none _) ∙ sym (any_next (take (m.end - from) (drop from value)) [] (fields_in s o₁ base (k - base)))
        ∙ ap (λ (ms : List (List ℕ)). without_any ms (fields_in s o₁ base (k - base))) (sym (from_last f h)) ∙ l.left))

-- ---- turns of the loop over Connection values

module _ (s o : List ℕ) (base : ℕ) where
  values-more : (i n : ℕ) → i < n → values_in s o base i (n - i)
      ≡ part s (get_or o (connection_at base i) 0) (get_or o (connection_at base i + 1) 0) ∷ values_in s o base (i + 1) (n - (i + 1))
  unfolding values_in
  values-more i n h = let e : n - i ≡ suc (n - (i + 1)) = omega arith in rw e

  values-none : (i n : ℕ) → n ≤ i → values_in s o base i (n - i) ≡ []
  unfolding values_in
  values-none i n h = let e : n - i ≡ 0 = omega arith in rw e

-- what is left to do: the values from the Connection line i on name those that are still to be dropped
pub record ValuesLeft (s o : List ℕ) (base count n i : ℕ) (o₁ : List ℕ) (k : ℕ) : Type 0 where
  pub within : i ≤ n
  pub fields : FieldsFrom s base k o₁
  pub done : Dropped s base count (fields_in s o₁ base (k - base)) o o₁ k
  pub left : unnamed (values_in s o base i (n - i)) (fields_in s o₁ base (k - base)) ≡ unnamed (values_in s o base 0 n) (fields_in s o base (count - base))

module _ (s o : List ℕ) (base count n : ℕ) (v : ValuesFrom s base count n o) where
  pub values-start : ValuesLeft s o base count n 0 o count
  values-start =
      let z : n - 0 ≡ n = omega arith in
      record { within = omega arith; fields = v.fields; done = dropped-none s base count o v.fields.least; left = rw z }

  module _ {i k : ℕ} {o₁ : List ℕ} (l : ValuesLeft s o base count n i o₁ k) where
    -- the numbers of the value are still as they were
    module _ (h : i < n) where
      value_same : (j : ℕ) → connection_at base i ≤ j → get_or o₁ j 0 ≡ get_or o j 0
      value_same j g = at_same o o₁ (count * 4) j (omega (arith, v.behind)) l.done.behind

      pub value_room : connection_at base i + 2 ≤ length o₁
      value_room = omega (arith, v.room, v.behind, l.done.altered.size)

      module _ {start len : ℕ} (a : start ≡ get_or o₁ (connection_at base i) 0) (b : len ≡ get_or o₁ (connection_at base i + 1) 0) where
        pub value-inside : start + len ≤ length s
        value-inside = omega (arith, a, b, value_same (connection_at base i) (omega arith), value_same (connection_at base i + 1) (omega arith), v.inside i h)

        value-is : take (start + len - start) (drop start s) ≡ part s (get_or o (connection_at base i) 0) (get_or o (connection_at base i + 1) 0)
        value-is =
            let x : start ≡ get_or o (connection_at base i) 0 = a ∙ value_same (connection_at base i) (omega arith) in
            let y : len ≡ get_or o (connection_at base i + 1) 0 = b ∙ value_same (connection_at base i + 1) (omega arith) in
            member-part s start len ∙ sym (elements-take 0 s start len value-inside) ∙ ap₂ (part s) x y

        pub values-turn : {o₂ : List ℕ} {r : ℕ} → Dropped s base k (unnamed (take (start + len - start) (drop start s) ∷ []) (fields_in s o₁ base (k - base))) o₁ o₂ r
            → ValuesLeft s o base count n (i + 1) o₂ r
        values-turn d =
            let w : List ℕ = take (start + len - start) (drop start s) in
            record {
              within = omega arith;
              fields = fields-left d l.fields (each-unnamed (OfLine (Inside (length s))) (w ∷ []) (fields_in s o₁ base (k - base)) l.fields.inside);
              done = dropped-then l.done (dropped-as d (sym d.fields));
              left = ap (unnamed (values_in s o base (i + 1) (n - (i + 1)))) d.fields
                  ∙ sym (unnamed-next w (values_in s o base (i + 1) (n - (i + 1))) (fields_in s o₁ base (k - base)))
                  ∙ ap (λ (x : List ℕ). unnamed (x ∷ values_in s o base (i + 1) (n - (i + 1))) (fields_in s o₁ base (k - base))) value-is
                  ∙ ap (λ (vs : List (List ℕ)). unnamed vs (fields_in s o₁ base (k - base))) (sym (values-more s o base i n h)) ∙ l.left;
            }

    pub values-done : n ≤ i → Dropped s base count (unnamed (values_in s o base 0 n) (fields_in s o base (count - base))) o o₁ k
    values-done h =
        dropped-as l.done
        (sym (unnamed-none (fields_in s o₁ base (k - base))) ∙ ap (λ (vs : List (List ℕ)). unnamed vs (fields_in s o₁ base (k - base))) (sym (values-none s o base i n h)) ∙ l.left)
