-- The list of one flock (02, item 1): "Given room, two accepted bundles give the same list exactly when they agree on that flock's entries, bytes and order".
use Rattle.std.specs.Prelude.{ℕ, ◌≡◌, true, ◌↔◌, List}
use Rattle.output.specs.Reply.{writes}
use Rattle.bundle.specs.Bundle.{is_flock, entries_octets, walk, of_flock, flock_list}
use Rattle.bundle_laws.specs.Reading.{IsBundle}

-- the claims on lists
pub record Listing : Type 0 where
  -- an accepted bundle gives a flock's list, delivered entries too: the octets of its entries, in order
  pub given : (f : ℕ) (s : List ℕ) → is_flock f ≡ true → (walk s).stop ≡ 0 → flock_list f s ≡ writes (entries_octets (of_flock f (walk s).entries))
  -- what gives a list is an accepted bundle, and the number is a flock's
  pub accepted : (f : ℕ) (s l : List ℕ) → flock_list f s ≡ writes l → (is_flock f ≡ true) × ((walk s).stop ≡ 0)
  -- given room, the same list exactly when they agree on the flock's entries, octets and order
  pub same : (f : ℕ) (s t l m : List ℕ) → flock_list f s ≡ writes l → flock_list f t ≡ writes m
      → (l ≡ m) ↔ (of_flock f (walk s).entries ≡ of_flock f (walk t).entries)
  -- a list is itself an accepted bundle of the flock's entries
  pub bundle : (f : ℕ) (s l : List ℕ) → flock_list f s ≡ writes l → IsBundle l (of_flock f (walk s).entries)
