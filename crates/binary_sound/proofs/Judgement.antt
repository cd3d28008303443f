-- What readers of Binary HTTP give and refuse, wherever they stand in the input: a judgement with a law for each way to put readers together.
use Prim.Native.Nat.{ℕ, ◌+◌, ◌-◌, ◌≤◌}
use mathlib.Core.Path.{◌≡◌, refl, subst}
use mathlib.Core.Bool.{Bool, true, false, cond}
use mathlib.Core.List.{List}
use native.Mathlib.Omega.{arith}
use borrow.Author.Tests.{ltb-false}
use lib.Dec.{ltb}
use lib.ListN.{length, take, drop, length-drop}
use lib.Seq.{length-take-le}
use Rattle.std.proofs.Common.{Option, Some, None}
use Rattle.octets.proofs.Kit.{either}
use Rattle.numbers.specs.Integer.{read_int}
use Rattle.numbers.specs.declared.Integer.{Integer}
use Rattle.numbers.proofs.IntegerLaws.{read-within, int-once}
use Rattle.script.specs.Script.{Lies}
use Rattle.script.specs.Do.{Piece, piece, Judged, good, wrong}
use Rattle.script.proofs.Places.{lies-front, lies-rest, lies_in}
use Rattle.script.proofs.Refusals.{Judges}
use Rattle.binary.specs.declared.Cursor.{Cursor}
use Rattle.binary.specs.Reader.{Got, got, no, cursor, Reader, on_got, ◌>>=◌, give, refuse, here, longs, ended, tell, rule, on_integer, integer, string}
use Rattle.std.proofs.Common.{Ok, Err}
use Rattle.octets.specs.Refusals.{refusal_number}
use Rattle.octets.specs.declared.Refusal.{Refusal as Reason}
use Rattle.messages.specs.Control.{Verdict, passed}

-- where the cursor is in the input s stands l, up to the place e; no more integers are counted than octets stand before it
pub record Stands (s : List ℕ) (e : ℕ) (c : Cursor) (l : List ℕ) : Type 0 where
  pub lies : Lies s c.at l
  pub ends : c.at + length l ≡ e
  pub few : c.long ≤ c.at

-- the same n octets on, and one integer more at most
pub stands-to : {s : List ℕ} {e : ℕ} {c : Cursor} {l : List ℕ} (n k : ℕ) → n ≤ length l → k ≤ c.long + n → Stands s e c l
    → Stands s e (cursor (c.at + n) k) (drop n l)
stands-to {l = l} n k h f y = record { lies = lies-rest n h y.lies; ends = omega (arith, y.ends, length-drop n l); few = omega (arith, f, y.few) }

pub stands_on : {s : List ℕ} {e : ℕ} {c : Cursor} {l : List ℕ} (n : ℕ) → n ≤ length l → Stands s e c l → Stands s e (cursor (c.at + n) c.long) (drop n l)
stands_on n h y = stands-to n _ h (omega arith) y

-- R holds of the number and the place of a refusal, P of what was got: its place, what is left there, and the value
abbrev pub Ends : {A : Type 0} → (ℕ → ℕ → Type 0) → (Cursor → List ℕ → A → Type 0) → Got A → Type 0
Ends R P (got a c l) = P c l a
Ends R P (no n p) = R n p

-- the reader r, where it stands at the place `at` of the input s that ends at e, refuses with nothing but what R holds of and gets nothing but what P holds
-- of, and then stands in the input again
pub record Stops {A : Type 0} (s : List ℕ) (e : ℕ) (R : ℕ → ℕ → Type 0) (P : Cursor → A → Type 0) (at : Cursor) (r : Reader A) : Type 0 where
  pub go : (l : List ℕ) → Stands s e at l → Ends R (λ n k a. Stands s e n k × P n a) (r at l)

-- the same, where nothing is said of refusals
abbrev pub Any : ℕ → ℕ → Type 0
Any n p = Unit {0}

abbrev pub Gets : {A : Type 0} → (Cursor → List ℕ → A → Type 0) → Got A → Type 0
Gets P x = Ends Any P x

abbrev pub Every : {A : Type 0} → List ℕ → ℕ → (Cursor → A → Type 0) → Cursor → Reader A → Type 0
Every s e P at r = Stops s e Any P at r

module _ {s : List ℕ} {e : ℕ} {R : ℕ → ℕ → Type 0} where
  pub stops-give : {A : Type 0} {P : Cursor → A → Type 0} {at : Cursor} {a : A} → P at a → Stops s e R P at (give a)
  stops-give h = record { go = λ l y. (y, h) }

  pub stops-refuse : {A : Type 0} {P : Cursor → A → Type 0} {at : Cursor} {n p : ℕ} → R n p → Stops s e R P at (refuse n p)
  stops-refuse h = record { go = λ l y. h }

  -- the present place is in the input
  pub stops-here : {P : Cursor → ℕ → Type 0} {at : Cursor} → (at.at ≤ length s → P at at.at) → Stops s e R P at here
  stops-here h = record { go = λ l y. (y, h (omega (arith, lies_in y.lies))) }

  -- no more integers are counted than octets of the input stand before
  pub stops-longs : {P : Cursor → ℕ → Type 0} {at : Cursor} → (at.long ≤ at.at → at.at ≤ e → P at at.long) → Stops s e R P at longs
  stops-longs h = record { go = λ l y. (y, h y.few (omega (arith, y.ends))) }

  pub stops-ended : {P : Cursor → Bool → Type 0} {at : Cursor} → ((b : Bool) → P at b) → Stops s e R P at ended
  stops-ended h = record { go = λ l y. (y, h _) }

  pub stops-tell : {X : Type 0} {P : Cursor → X → Type 0} {at : Cursor} (j : Judged X) → Judges R (λ x. Unit {0}) j → ((x : X) → j ≡ good x → P at x)
      → Stops s e R P at (tell j)
  stops-tell (good x) f h = stops-give (h x refl)
  stops-tell (wrong n p) f h = stops-refuse f

  pub stops-rule : {X : Type 0} {P : Cursor → X → Type 0} {at : Cursor} (v : Verdict) (p : ℕ) (x : X) → ((r : Reason) → v ≡ Err r → R (refusal_number r) p) → (v ≡ passed → P at x)
      → Stops s e R P at (tell (rule v p x))
  stops-rule (Ok u) p x f h = stops-give (h refl)
  stops-rule (Err r) p x f h = stops-refuse (f r refl)

  pub stops-if : {A : Type 0} {P : Cursor → A → Type 0} {at : Cursor} {x y : Reader A} (t : Bool) → (t ≡ true → Stops s e R P at x) → (t ≡ false → Stops s e R P at y)
      → Stops s e R P at (cond t x y)
  stops-if {P = P} {at} {x} {y} t f g = either (Stops s e R P at) t x y f g

  pub stops-integer : {P : Cursor → ℕ → Type 0} {at : Cursor} (k p : ℕ) → R k p → ((n : Cursor) (v : ℕ) → P n v) → Stops s e R P at (integer k p)
  unfolding integer
  stops-integer {P} {at} k p f h = record { go = λ l y. on l y (read_int at.at l) refl }
    where
      on : (l : List ℕ) → Stands s e at l → (x : Option Integer) → read_int at.at l ≡ x → Ends R (λ n i a. Stands s e n i × P n a) (on_integer k p at l x)
      on l y (Some i) q =
          let w = read-within at.at l q in
          let o = int-once at.at l q in
          let z : at.at + (i.next - at.at) ≡ i.next = omega arith in
          (subst (λ (n : ℕ). Stands s e (cursor n (at.long + i.long)) (drop (i.next - at.at) l)) z (stands-to (i.next - at.at) (at.long + i.long) (omega arith) (omega (arith, w, o)) y), h _ i.value)
      on l y None q = f

  pub stops-octets : {P : Cursor → Piece → Type 0} {at : Cursor} (n k p : ℕ) → R k p → ((w : List ℕ) → length w ≡ n → Lies s at.at w → at.long ≤ at.at → P (cursor (at.at + n) at.long) (piece at.at w))
      → Stops s e R P at (string n k p)
  unfolding string
  stops-octets {P} {at} n k p f h = record { go = λ l y. on l y (ltb (length l) n) refl }
    where
      on : (l : List ℕ) → Stands s e at l → (b : Bool) → ltb (length l) n ≡ b
          → Ends R (λ i j a. Stands s e i j × P i a) (cond b (no k p) (got (piece at.at (take n l)) (cursor (at.at + n) at.long) (drop n l)))
      on l y true q = f
      on l y false q =
          let w = ltb-false (length l) n q in
          (stands_on n w y, h (take n l) (length-take-le n l w) (lies-front n y.lies) y.few)

  pub stops-bind : {A B : Type 0} {P : Cursor → B → Type 0} {at : Cursor} {r : Reader A} (k : A → Reader B) → Stops s e R (λ n a. Stops s e R P n (k a)) at r
      → Stops s e R P at (r >>= k)
  unfolding ◌>>=◌
  stops-bind {A} {B} {P} {at} {r} k h = record { go = λ l y. on (r at l) (h.go l y) }
    where
      on : (x : Got A) → Ends R (λ n i a. Stands s e n i × Stops s e R P n (k a)) x → Ends R (λ n i b. Stands s e n i × P n b) (on_got x k)
      on (got a n i) g = g.1.go i g.0
      on (no n p) g = g

  pub stops-map : {A : Type 0} {P Q : Cursor → A → Type 0} {at : Cursor} {r : Reader A} → ((n : Cursor) (a : A) → P n a → Q n a) → Stops s e R P at r → Stops s e R Q at r
  stops-map {A} {P} {Q} {at} {r} f h = record { go = λ l y. on (r at l) (h.go l y) }
    where
      on : (x : Got A) → Ends R (λ n i a. Stands s e n i × P n a) x → Ends R (λ n i a. Stands s e n i × Q n a) x
      on (got a n i) g = (g.0, f n a g.1)
      on (no n p) g = g

  -- behind a reader of which something is known
  pub stops_then : {A B : Type 0} {P : Cursor → A → Type 0} {Q : Cursor → B → Type 0} {at : Cursor} {r : Reader A} (k : A → Reader B) → Stops s e R P at r
      → ((n : Cursor) (a : A) → P n a → Stops s e R Q n (k a)) → Stops s e R Q at (r >>= k)
  stops_then k h f = stops-bind k (stops-map f h)

-- ---- the laws of what may refuse, where nothing is said of refusals

module _ {s : List ℕ} {e : ℕ} where
  pub every-refuse : {A : Type 0} {P : Cursor → A → Type 0} {at : Cursor} {n p : ℕ} → Every s e P at (refuse n p)
  every-refuse = stops-refuse tt

  pub every_here : {P : Cursor → ℕ → Type 0} {at : Cursor} → P at at.at → Every s e P at here
  every_here h = stops-here (λ i. h)

  pub every-tell : {X : Type 0} {P : Cursor → X → Type 0} {at : Cursor} (j : Judged X) → ((x : X) → j ≡ good x → P at x) → Every s e P at (tell j)
  every-tell {X} j h = stops-tell j (any j) h
    where
      any : (i : Judged X) → Judges Any (λ x. Unit {0}) i
      any (good x) = tt
      any (wrong n p) = tt

  pub every-rule : {X : Type 0} {P : Cursor → X → Type 0} {at : Cursor} (v : Verdict) (p : ℕ) (x : X) → (v ≡ passed → P at x) → Every s e P at (tell (rule v p x))
  every-rule v p x h = stops-rule v p x (λ r i. tt) h

  pub every-integer : {P : Cursor → ℕ → Type 0} {at : Cursor} (k p : ℕ) → ((n : Cursor) (v : ℕ) → P n v) → Every s e P at (integer k p)
  every-integer k p h = stops-integer k p tt h

  pub every-octets : {P : Cursor → Piece → Type 0} {at : Cursor} (n k p : ℕ) → ((w : List ℕ) → length w ≡ n → Lies s at.at w → at.long ≤ at.at → P (cursor (at.at + n) at.long) (piece at.at w))
      → Every s e P at (string n k p)
  every-octets n k p h = stops-octets n k p tt h
