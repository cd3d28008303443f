-- What readers of Binary HTTP read: a judgement with a law for each way to put readers together.
use mathlib.Core.Path.{◌≡◌, refl, ap, ◌∙◌}
use mathlib.Core.Bool.{Bool}
use mathlib.Core.List.{List, [], ◌++◌, append_assoc, append-nil}
use Prim.Native.Nat.{ℕ, ◌+◌, ◌-◌, ◌<◌}
use native.Mathlib.Omega.{arith}
use borrow.Author.Tests.{le-ltb}
use lib.ListN.{length, length-append}
use lib.Seq.{take-append_seam, drop_at}
use Rattle.std.proofs.Common.{Some}
use Rattle.octets.specs.Text.{is_empty}
use Rattle.numbers.specs.Integer.{read_int, integer_end, int_bytes, integer_of}
use Rattle.numbers.proofs.IntegerLaws.{int-round, int-length}
use Rattle.script.specs.Do.{piece, Judged, good}
use Rattle.binary.specs.Reader.{got, cursor, Reader, ◌>>=◌, give, here, longs, ended, tell, integer, string}

-- r at the place `at` reads the octets x as a, where `rest` stands behind them; no integer among them is long
pub record Reads {A : Type 0} (r : Reader A) (at : ℕ) (x rest : List ℕ) (a : A) : Type 0 where
  pub go : r (cursor at 0) (x ++ rest) ≡ got a (cursor (at + length x) 0) rest

-- a reader that uses no octets
pub reads_none : {A : Type 0} {r : Reader A} {at : ℕ} {rest : List ℕ} {a : A} → r (cursor at 0) rest ≡ got a (cursor at 0) rest → Reads r at [] rest a
reads_none {at = at} {rest} {a} e = record { go = e ∙ ap (λ (n : ℕ). got a (cursor n 0) rest) (omega arith) }

pub reads-give : {A : Type 0} (at : ℕ) (rest : List ℕ) (a : A) → Reads (give a) at [] rest a
reads-give at rest a = reads_none refl

pub reads_here : (at : ℕ) (rest : List ℕ) → Reads here at [] rest at
reads_here at rest = reads_none refl

pub reads-longs : (at : ℕ) (rest : List ℕ) → Reads longs at [] rest 0
reads-longs at rest = reads_none refl

pub reads-ended : (at : ℕ) (rest : List ℕ) (b : Bool) → is_empty rest ≡ b → Reads ended at [] rest b
reads-ended at rest b e = reads_none (rw e)

pub reads-tell : {X : Type 0} (at : ℕ) (rest : List ℕ) (j : Judged X) (x : X) → j ≡ good x → Reads (tell j) at [] rest x
reads-tell at rest j x e = reads_none (rw e)

pub reads-integer : (k p at v : ℕ) (rest : List ℕ) → v < integer_end → Reads (integer k p) at (int_bytes v) rest v
unfolding integer
reads-integer k p at v rest h =
    let e : read_int at (int_bytes v ++ rest) ≡ Some (integer_of v (at + length (int_bytes v)) 0) = rw (int-length v) (int-round v at rest h) in
    let z : length (int_bytes v) ≡ at + length (int_bytes v) - at = omega arith in
    record { go = rw (e, drop_at (int_bytes v) rest _ z) }

pub reads-octets : (k p at : ℕ) (w rest : List ℕ) → Reads (string (length w) k p) at w rest (piece at w)
unfolding string
reads-octets k p at w rest =
    let l : length (w ++ rest) ≡ length w + length rest = length-append w rest in
    record { go = rw (le-ltb (length (w ++ rest)) (length w) (omega arith), take-append_seam w rest, drop_at w rest _ refl) }

pub reads-bind : {A B : Type 0} {r : Reader A} {at : ℕ} {x y rest : List ℕ} {a : A} (k : A → Reader B) {b : B}
    → Reads r at x (y ++ rest) a → Reads (k a) (at + length x) y rest b → Reads (r >>= k) at (x ++ y) rest b
unfolding ◌>>=◌
reads-bind {r = r} {at} {x} {y} {rest} {a} k {b} h g =
    record {
      go =
          rw (append_assoc x y rest, h.go)
          (g.go ∙ ap (λ (n : ℕ). got b (cursor n 0) rest) (rw (length-append x y) (omega arith)));
    }

-- a step that uses no octets, in front or behind
pub before : {A B : Type 0} {r : Reader A} {at : ℕ} {y rest : List ℕ} {a : A} (k : A → Reader B) {b : B}
    → Reads r at [] (y ++ rest) a → Reads (k a) at y rest b → Reads (r >>= k) at y rest b
before {at = at} k h g =
    let e : at ≡ at + 0 = omega arith in
    reads-bind k h (rw e at g)

pub behind : {A B : Type 0} {r : Reader A} {at : ℕ} {x rest : List ℕ} {a : A} (k : A → Reader B) {b : B}
    → Reads r at x rest a → Reads (k a) (at + length x) [] rest b → Reads (r >>= k) at x rest b
behind {x = x} k h g = rw append-nil at (reads-bind k h g)

-- the same with another name for what is read, or for its place
pub reads_as : {A : Type 0} {r : Reader A} {at : ℕ} {x rest : List ℕ} {a b : A} → a ≡ b → Reads r at x rest a → Reads r at x rest b
reads_as e h = rw e at h
