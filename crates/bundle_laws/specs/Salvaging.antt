-- Salvage (02, item 12): what is kept of whatever octets is "the longest front of whole entries that the bundle reader accepts", and "For an accepted bundle
-- cut anywhere, exactly the entries that end at or before the cut are kept".
use Rattle.std.specs.Prelude.{ℕ, ◌+◌, ◌≤◌, ◌<◌, ◌≡◌, cond, ◌↔◌, List, [], ◌∷◌, ◌++◌, leb, eqb, length, take}
use Rattle.octets.specs.Ascii.{ascii}
use Rattle.octets.specs.Refusals.{cut_off}
use Rattle.bundle.specs.Bundle.{Entry, entry_octets, entries_octets, walk, pick_if}
use Rattle.bundle.specs.Salvage.{salvage_of}
use Rattle.salvaging.specs.Line.{input_most, salvage_line}
use Rattle.bundle_laws.specs.Reading.{IsBundle}

-- ---- the longest front

pub record LongestFront (s : List ℕ) : Type 0 where
  -- a front of the octets, and what is left off stands behind it
  pub rest : List ℕ
  pub front : s ≡ (salvage_of s).octets ++ rest
  pub left : (salvage_of s).left ≡ length rest
  -- the reader accepts it, with so many entries: those that it finds in the octets before it stops
  pub accepted : IsBundle (salvage_of s).octets (walk s).entries
  pub counted : (salvage_of s).entries ≡ length (walk s).entries
  -- no front that the reader accepts is longer
  pub longest : (f r : List ℕ) → s ≡ f ++ r → (walk f).stop ≡ 0 → length f ≤ length (salvage_of s).octets
  -- nothing stopped it exactly where nothing is left off
  pub stopped : ((salvage_of s).stop ≡ 0) ↔ ((salvage_of s).left ≡ 0)

-- ---- an accepted bundle cut anywhere

-- of entries one behind the other, the first at the place `at`: those that end at or before the cut
unfoldable pub ended_by : ℕ → ℕ → List Entry → List Entry
ended_by cut at [] = []
ended_by cut at (e ∷ es) = let next = at + length (entry_octets e) in pick_if (leb next cut) e (ended_by cut next es)

-- the entries of the bundle b that end at or before the cut
abbrev pub ended_in : List ℕ → ℕ → List Entry
ended_in b cut = ended_by cut 0 (walk b).entries

-- exactly these are kept, with all their octets
pub record KeptBefore (b : List ℕ) (cut : ℕ) : Type 0 where
  pub octets : (salvage_of (take cut b)).octets ≡ entries_octets (ended_in b cut)
  pub accepted : IsBundle (salvage_of (take cut b)).octets (ended_in b cut)
  pub counted : (salvage_of (take cut b)).entries ≡ length (ended_in b cut)
  -- the number is 0 where nothing is left off, else 9
  pub stop : (salvage_of (take cut b)).stop ≡ cond (eqb (salvage_of (take cut b)).left 0) 0 cut_off

-- the claims on salvage
pub record Salvaging : Type 0 where
  pub longest : (s : List ℕ) → LongestFront s
  pub cut : (b : List ℕ) (cut : ℕ) → (walk b).stop ≡ 0 → KeptBefore b cut
  -- "above 65,536 bytes of input it is `kept 0 0 left 65536 stop 8`"
  pub large : (s : List ℕ) → input_most < length s → salvage_line s ≡ ascii "kept 0 0 left 65536 stop 8\n"
