-- Turns of the writer's loops: the first of what is left, and the others.
-- Assumes nothing.
use Prim.Native.Nat.{ℕ, zero, suc, ◌+◌, ◌-◌, ◌*◌, ◌≤◌, ◌<◌}
use mathlib.Core.Path.{◌≡◌, refl, ◌∙◌}
use mathlib.Core.List.{List, [], ◌∷◌, ◌++◌}
use native.Mathlib.Nat.{add-zero, sub-zero}
use native.Mathlib.Omega.{arith}
use lib.ListN.{length, get_or, length-append, length-map}
use Rattle.output.specs.Splice.{Left}
use Rattle.output.proofs.Laws.{left-start, elements-length}
use Rattle.numbers.proofs.DigitLaws.{digits-length}
use Rattle.messages.specs.Meaning.{field_means}
use Rattle.ranges.specs.Entries.{field_in, fields_in, heads_in, fields_before, FieldsWithin, HeadsWithin, fields_named}
use Rattle.ranges.proofs.Entries.{fields-more, fields-none, heads-more, heads-none}
use Rattle.http1_writer.specs.Write.{field_text, section_text, status_line, informational_text}
use Rattle.http1_writer.specs.Numbered.{line_size, section_size, status_size, heads_size}

-- ---- field lines

module _ (s fs : List ℕ) where
  pub line-length : (k : ℕ) → length (field_text (field_means (field_in s fs k))) ≡ line_size fs k
  unfolding field_text field_means
  line-length k = simp (length-append, length-map, elements-length) (omega arith)

  pub section-length : (k n : ℕ) → length (section_text (fields_named s fs k n)) ≡ section_size fs k n
  unfolding section_text fields_in
  section-length k zero = refl
  section-length k (suc n) =
      length-append (field_text (field_means (field_in s fs k))) (section_text (fields_named s fs (k + 1) n)) ∙ rw (line-length k, section-length (k + 1) n)

  -- a loop over n entries from the entry k on, of which i are done
  abbrev pub Lines : ℕ → ℕ → ℕ → List ℕ
  Lines k n i = section_text (fields_named s fs (k + i) (n - i))

  abbrev pub LinesLeft : ℕ → ℕ → List ℕ → ℕ → List ℕ → ℕ → ℕ → Type 0
  LinesLeft k n o₀ at₀ o at i = Left o₀ at₀ (section_text (fields_named s fs k n)) (section_size fs k n) o at (Lines k n i) (section_size fs (k + i) (n - i))

  module _ (k n : ℕ) where
    pub section-start : (o : List ℕ) (at : ℕ) → LinesLeft k n o at o at 0
    section-start o at = rw (add-zero, sub-zero) (left-start o at (section_text (fields_named s fs k n)) (section_size fs k n))

    pub section-more : (i : ℕ) → i < n
        → (Lines k n i ≡ field_text (field_means (field_in s fs (k + i))) ++ Lines k n (i + 1))
        × (section_size fs (k + i) (n - i) ≡ line_size fs (k + i) + section_size fs (k + (i + 1)) (n - (i + 1)))
    unfolding section_text
    section-more i h =
        let e : n - i ≡ suc (n - (i + 1)) = omega arith in
        let a : k + (i + 1) ≡ k + i + 1 = omega arith in
        (rw (fields-more s fs k i n h), rw (e, a))

    pub section-none : (i : ℕ) → n ≤ i → (Lines k n i ≡ 13 ∷ 10 ∷ []) × (section_size fs (k + i) (n - i) ≡ 2)
    unfolding section_text
    section-none i h = let e : n - i ≡ 0 = omega arith in (rw (fields-none s fs (k + i) i n h), rw e)

-- ---- informational heads

module _ (s hs ns : List ℕ) where
  pub head-length : (status k n : ℕ) → length (status_line status ++ section_text (fields_named s hs k n)) ≡ status_size status + section_size hs k n
  unfolding status_line
  head-length status k n =
      length-append (status_line status) (section_text (fields_named s hs k n)) ∙ rw (section-length s hs k n) (simp (length-append, digits-length) (omega arith))

  pub heads-length : (i n : ℕ) → length (informational_text (heads_in s hs ns i n)) ≡ heads_size hs ns i n
  unfolding informational_text heads_in
  heads-length i zero = refl
  heads-length i (suc n) =
      length-append (status_line (get_or ns (i * 2) 0) ++ section_text (fields_named s hs (fields_before ns i) (get_or ns (i * 2 + 1) 0))) (informational_text (heads_in s hs ns (i + 1) n))
      ∙ rw (head-length (get_or ns (i * 2) 0) (fields_before ns i) (get_or ns (i * 2 + 1) 0), heads-length (i + 1) n)

  -- a loop over n heads, of which i are done
  abbrev pub HeadsLeft : ℕ → List ℕ → ℕ → List ℕ → ℕ → ℕ → Type 0
  HeadsLeft n o₀ at₀ o at i =
      Left o₀ at₀ (informational_text (heads_in s hs ns 0 n)) (heads_size hs ns 0 n) o at (informational_text (heads_in s hs ns i (n - i))) (heads_size hs ns i (n - i))

  module _ (n : ℕ) where
    pub heads-start : (o : List ℕ) (at : ℕ) → HeadsLeft n o at o at 0
    heads-start o at = rw sub-zero (left-start o at (informational_text (heads_in s hs ns 0 n)) (heads_size hs ns 0 n))

    -- the head i, by the numbers that the code has of it, and the others
    pub head-next : (i status k count : ℕ) → i < n → status ≡ get_or ns (i * 2) 0 → count ≡ get_or ns (i * 2 + 1) 0 → k ≡ fields_before ns i
        → (informational_text (heads_in s hs ns i (n - i))
        ≡ (status_line status ++ section_text (fields_named s hs k count)) ++ informational_text (heads_in s hs ns (i + 1) (n - (i + 1))))
        × (heads_size hs ns i (n - i) ≡ status_size status + section_size hs k count + heads_size hs ns (i + 1) (n - (i + 1)))
    unfolding informational_text
    head-next i status k count h es ec ek =
        let e : n - i ≡ suc (n - (i + 1)) = omega arith in
        (rw (es, ec, ek, heads-more s hs ns i n h), rw (es, ec, ek, e))

    pub head-none : (i : ℕ) → n ≤ i → (informational_text (heads_in s hs ns i (n - i)) ≡ []) × (heads_size hs ns i (n - i) ≡ 0)
    unfolding informational_text
    head-none i h = let e : n - i ≡ 0 = omega arith in (rw (heads-none s hs ns i n h), rw e)

-- the fields of the head i, by the numbers that the code has of it, are within
pub head-within : {l n i k count : ℕ} {hs ns : List ℕ} → HeadsWithin l hs ns n → i < n → count ≡ get_or ns (i * 2 + 1) 0 → k ≡ fields_before ns i → FieldsWithin l hs k count
head-within {l} {n} {i} {k} {count} {hs} {ns} w h ec ek = rw (ec, ek) (w.each i h)
