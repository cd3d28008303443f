-- What every call that changes a bundle, or the table beside it, judges first (02, items 1, 6 and 11): "16 at 0 for a table that has not 127 records, before
-- all else", "13 at 0 for a used length past the buffer", "the bundle's own". In each, `refuse` makes the call's answer of a number and a place.
use Rattle.std.specs.Prelude.{ℕ, cond, List, leb, eqb, length, take}
use Rattle.octets.specs.Limits.{flocks_most}
use Rattle.octets.specs.Refusals.{no_room, bad_table}
use Rattle.bundle.specs.Bundle.{Entry, Walk, walk}

-- beside a table of n records: 127, or 16 at 0
abbrev pub beside_table : {A : Type 0} → (ℕ → ℕ → A) → ℕ → A → A
beside_table refuse n x = cond (eqb n flocks_most) x (refuse bad_table 0)

-- with a used length that is not past the buffer b, or 13 at 0
abbrev pub in_buffer : {A : Type 0} → (ℕ → ℕ → A) → List ℕ → ℕ → A → A
in_buffer refuse b used x = cond (leb used (length b)) x (refuse no_room 0)

-- of the entries of a bundle that was walked, or the bundle's own number at its place
abbrev pub of_bundle : {A : Type 0} → (ℕ → ℕ → A) → Walk → (List Entry → A) → A
of_bundle refuse w answer = cond (eqb w.stop 0) (answer w.entries) (refuse w.stop w.end)

-- all three, of the bundle that the first `used` octets of b are
abbrev pub on_bundle : {A : Type 0} → (ℕ → ℕ → A) → ℕ → List ℕ → ℕ → (List Entry → A) → A
on_bundle refuse n b used answer = beside_table refuse n (in_buffer refuse b used (of_bundle refuse (walk (take used b)) answer))
