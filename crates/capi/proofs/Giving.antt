-- The numbers of a message, given or not.
use Prim.Native.Nat.{ℕ, ◌+◌, ◌<◌, ◌≤◌}
use mathlib.Core.Path.{◌≡◌, refl}
use mathlib.Core.Bool.{Bool, true, false, cond}
use mathlib.Core.List.{List, ◌++◌}
use native.Mathlib.Omega.{arith}
use borrow.Author.Tests.{le-leb, lt-leb}
use mir.Val.{bool_byte}
use lib.ListN.{length, length-append}
use Rattle.std.proofs.Common.{Option, Some, None}
use Rattle.octets.specs.Refusals.{no_room}
use Rattle.output.specs.Splice.{part, Put}
use Rattle.output.proofs.Laws.{elements-length, put_then}
use Rattle.messages.specs.declared.Record.{Record}
use Rattle.capi.specs.Entries.{control_numbers, count_numbers, prefix_number, stated_numbers, record_numbers, Numbered}

-- 1 for yes, 0 for no
pub bit-is : (b : Bool) → bool_byte b ≡ cond b 1 0
bit-is true = refl
bit-is false = refl

pub record-size : (r : Record) → length (record_numbers r) ≡ 20
unfolding record_numbers
record-size r = go r.stated
  where
    go : (t : Option ℕ) → length (control_numbers r ++ count_numbers r ++ stated_numbers (prefix_number r.prefix) t r.long (cond r.closes 1 0)) ≡ 20
    go None = refl
    go (Some n) = refl

pub lists-size : (a b c : List ℕ) (h k l : ℕ) → length (part a 0 h ++ part b 0 k ++ part c 0 l) ≡ h + k + l
lists-size a b c h k l =
    omega (
      arith,
      length-append (part a 0 h ++ part b 0 k) (part c 0 l),
      length-append (part a 0 h) (part b 0 k),
      elements-length 0 a 0 h,
      elements-length 0 b 0 k,
      elements-length 0 c 0 l,
    )

pub message-size : (r : Record) (d a b c : List ℕ) (h k l : ℕ)
    → length ((record_numbers r ++ part d 0 8) ++ (part a 0 h ++ part b 0 k ++ part c 0 l)) ≡ 28 + h + k + l
message-size r d a b c h k l =
    omega (
      arith,
      length-append (record_numbers r ++ part d 0 8) (part a 0 h ++ part b 0 k ++ part c 0 l),
      length-append (record_numbers r) (part d 0 8),
      record-size r,
      elements-length 0 d 0 8,
      lists-size a b c h k l,
    )

pub not-given : (bs : List ℕ) (n : ℕ) (o : List ℕ) (m : ℕ) → length bs ≡ m → length o < m → Numbered bs n o o 0 no_room
not-given bs n o m e h =
    let g : length o < length bs = omega (arith, e, h) in
    record { answers = rw (lt-leb (length bs) (length o) g) refl; places = rw (lt-leb (length bs) (length o) g) refl; after = rw (lt-leb (length bs) (length o) g) refl }

pub given : (x y : List ℕ) (n : ℕ) (o o₁ o₂ : List ℕ) (i j a z : ℕ) → length (x ++ y) ≤ length o → Put o 0 x i o₁ a → Put o₁ a y j o₂ z → Numbered (x ++ y) n o o₂ n 0
given x y n o o₁ o₂ i j a z h p q =
    let w = put_then p q in
    record { answers = rw (le-leb (length (x ++ y)) (length o) h) refl; places = rw (le-leb (length (x ++ y)) (length o) h) refl; after = rw (le-leb (length (x ++ y)) (length o) h) w.all }

pub fits_in : {k m n : ℕ} → k ≡ m → m ≤ n → k ≤ n
fits_in e h = omega (arith, e, h)
