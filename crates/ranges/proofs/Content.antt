-- Turns of the loop that writes the chunks of a message: the first of what is left, and the others.
-- Assumes nothing.
use Prim.Native.Nat.{ℕ, suc, ◌+◌, ◌-◌, ◌*◌, ◌≤◌, ◌<◌}
use mathlib.Core.Path.{◌≡◌, refl, ap, ◌∙◌}
use mathlib.Core.List.{List, [], ◌++◌}
use native.Mathlib.Nat.{sub-zero}
use native.Mathlib.Omega.{arith}
use lib.ListN.{length, get_or, length-append}
use Rattle.output.specs.Splice.{part, Left}
use Rattle.output.proofs.Laws.{left-start, elements-length}
use Rattle.messages.specs.Meaning.{content_of}
use Rattle.ranges.specs.Entries.{chunks_in, content_in, ChunksWithin}

module _ (s cs : List ℕ) where
  -- what is left of n chunks, of which i are done
  abbrev pub content_left : ℕ → ℕ → List ℕ
  content_left n i = content_of (chunks_in s cs i (n - i))

  abbrev pub ContentLeft : ℕ → List ℕ → ℕ → List ℕ → ℕ → ℕ → Type 0
  ContentLeft n o₀ at₀ o at i =
      Left o₀ at₀ (content_in s cs n) (length (content_in s cs n)) o at (content_left n i) (length (content_left n i))

  module _ (n : ℕ) where
    pub content-start : (o : List ℕ) (at : ℕ) → ContentLeft n o at o at 0
    content-start o at = rw sub-zero (left-start o at (content_in s cs n) (length (content_in s cs n)))

    -- the chunk i, by the numbers that the code has of it, and the others
    pub content-next : (i start len : ℕ) → i < n → start ≡ get_or cs (i * 2) 0 → len ≡ get_or cs (i * 2 + 1) 0
        → (content_left n i ≡ part s start len ++ content_left n (i + 1)) × (length (content_left n i) ≡ len + length (content_left n (i + 1)))
    unfolding content_of chunks_in
    content-next i start len h es el =
        let q = split in
        (q, ap length q ∙ length-append (part s start len) (content_left n (i + 1)) ∙ rw (elements-length 0 s start len))
      where
        split : content_left n i ≡ part s start len ++ content_left n (i + 1)
        split = let e : n - i ≡ suc (n - (i + 1)) = omega arith in rw (es, el, e)

    pub content-none : (i : ℕ) → n ≤ i → (content_left n i ≡ []) × (length (content_left n i) ≡ 0)
    unfolding content_of chunks_in
    content-none i h = let e : n - i ≡ 0 = omega arith in rw e (refl, refl)

pub chunk-within : {l n i start len : ℕ} {cs : List ℕ} → ChunksWithin l cs n → i < n → start ≡ get_or cs (i * 2) 0 → len ≡ get_or cs (i * 2 + 1) 0 → start + len ≤ l
chunk-within {l} {n} {i} {start} {len} {cs} w h es el = omega (arith, w.each i h)
