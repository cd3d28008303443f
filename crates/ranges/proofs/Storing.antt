-- Laws of what readers leave in lent numbers, `AlteredFrom` and `Stores`: they chain as a reader goes on.
-- Assumes nothing.
use Prim.Native.Nat.{ℕ, ◌+◌, ◌≤◌}
use mathlib.Core.Path.{◌≡◌, refl, sym, ap, ◌∙◌}
use mathlib.Core.List.{List, [], ◌∷◌, ◌++◌, append_assoc}
use native.Mathlib.Omega.{arith}
use lib.ListN.{length, set, take, drop, length-append, take-append-drop}
use lib.Seq.{take_at, drop_at, take-take, take-set-le, drop-set-lt, length-take-le}
use Rattle.script.specs.Script.{Lies}
use Rattle.script.proofs.Places.{lies_in}
use Rattle.output.specs.Splice.{splice}
use Rattle.output.proofs.Laws.{splice-length, splice-is}
use Rattle.ranges.specs.Ranges.{AlteredFrom, Stores, Begins}

-- ---- what a splice leaves as it was

pub splice_front : (o : List ℕ) (a b : ℕ) (l : List ℕ) → a ≤ b → take a (splice o b l) ≡ take a o
splice_front o a b [] h = refl
splice_front o a b (x ∷ l) h = splice_front (set o b x) a (b + 1) l (omega arith) ∙ take-set-le a o b x h

pub splice-back : (o : List ℕ) (a b : ℕ) (l : List ℕ) → a + length l ≤ b → drop b (splice o a l) ≡ drop b o
splice-back o a b [] h = refl
splice-back o a b (x ∷ l) h = splice-back (set o a x) (a + 1) b l (omega arith) ∙ drop-set-lt b o a x (omega arith)

-- ---- numbers that are altered from a place on alone

pub altered-none : (a : ℕ) (o : List ℕ) → AlteredFrom a o o
altered-none a o = record { before = refl; size = refl }

pub altered-splice : (o : List ℕ) (a b : ℕ) (l : List ℕ) → a ≤ b → AlteredFrom a o (splice o b l)
altered-splice o a b l h = record { before = splice_front o a b l h; size = splice-length o b l }

-- from an earlier place on
pub altered-less : {a b : ℕ} {o o' : List ℕ} → a ≤ b → AlteredFrom b o o' → AlteredFrom a o o'
altered-less {a} {b} {o} {o'} h x = record {
  before = sym (take-take a b o' h) ∙ ap (take a) x.before ∙ take-take a b o h;
  size = x.size;
}

-- and once more
pub altered-then : {a : ℕ} {o o₁ o₂ : List ℕ} → AlteredFrom a o o₁ → AlteredFrom a o₁ o₂ → AlteredFrom a o o₂
altered-then x y = record { before = y.before ∙ x.before; size = y.size ∙ x.size }

-- ---- what lies at a place, said by what stands up to its end

lies-to : {o l : List ℕ} {a : ℕ} (y : Lies o a l) → take (a + length l) o ≡ y.front ++ l
lies-to {o} {l} {a} y =
    ap (take (a + length l)) (y.split ∙ sym (append_assoc y.front l y.back))
    ∙ take_at (y.front ++ l) y.back (a + length l) (length-append y.front l ∙ omega (arith, y.long))

lies-by : {o : List ℕ} {a : ℕ} (f l : List ℕ) (n : ℕ) → take n o ≡ f ++ l → length f ≡ a → Lies o a l
lies-by {o} f l n e h = record {
  front = f;
  back = drop n o;
  split = sym (take-append-drop n o) ∙ ap (λ (x : List ℕ). x ++ drop n o) e ∙ append_assoc f l (drop n o);
  long = h;
}

-- ---- numbers that are stored

-- by a splice
pub stores-splice : {o l o' : List ℕ} {a : ℕ} → o' ≡ splice o a l → a + length l ≤ length o → Stores o a l o'
stores-splice {o} {l} {o'} {a} e h = rw e record {
  altered = altered-splice o a a l (omega arith);
  lies = record {
    front = take a o;
    back = drop (a + length l) o;
    split = splice-is o a l h ∙ append_assoc (take a o) l (drop (a + length l) o);
    long = length-take-le a o (omega arith);
  };
}

-- none, where something was altered from there on
pub stores-none : {o o' : List ℕ} {a : ℕ} → AlteredFrom a o o' → a ≤ length o → Stores o a [] o'
stores-none {o} {o'} {a} x h = record {
  altered = x;
  lies = record { front = take a o'; back = drop a o'; split = sym (take-append-drop a o'); long = length-take-le a o' (omega (arith, x.size)) };
}

-- what stands there when it is stored again
pub stores-is : {o l o' : List ℕ} {a : ℕ} → Stores o a l o' → o' ≡ splice o' a l
stores-is {o} {l} {o'} {a} x =
    let y = x.lies in
    let e : o' ≡ y.front ++ l ++ y.back = y.split ∙ sym (append_assoc y.front l y.back) in
    let n : length (y.front ++ l) ≡ a + length l = length-append y.front l ∙ omega (arith, y.long) in
    let f : take a o' ≡ y.front = ap (take a) y.split ∙ take_at y.front (l ++ y.back) a y.long in
    let b : drop (a + length l) o' ≡ y.back = ap (drop (a + length l)) e ∙ drop_at (y.front ++ l) y.back (a + length l) n in
    sym (splice-is o' a l (lies_in y) ∙ rw (f, b) (sym e))

-- at the front
pub stores-begins : {o l o' : List ℕ} → Stores o 0 l o' → Begins l o'
stores-begins {o} {l} {o'} x = go x.lies.front x.lies.split x.lies.long
  where
    go : (f : List ℕ) → o' ≡ f ++ (l ++ x.lies.back) → length f ≡ 0 → Begins l o'
    go [] e h = record { others = x.lies.back; split = e }
    go (y ∷ f) e h = absurd (omega arith)

-- something behind them is altered
pub stores-behind : {o l o₁ o₂ : List ℕ} {a b : ℕ} → Stores o a l o₁ → a + length l ≤ b → AlteredFrom b o₁ o₂ → Stores o a l o₂
stores-behind {o} {l} {o₁} {o₂} {a} {b} x h z = record {
  altered = altered-then x.altered (altered-less (omega arith) z);
  lies = lies-by x.lies.front l (a + length l) ((altered-less h z).before ∙ lies-to x.lies) x.lies.long;
}

-- something from their start on was altered before
pub stores-after : {o l o₁ o₂ : List ℕ} {a : ℕ} → AlteredFrom a o o₁ → Stores o₁ a l o₂ → Stores o a l o₂
stores-after z x = record { altered = altered-then z x.altered; lies = x.lies }

-- others directly behind them
pub stores-then : {o l m o₁ o₂ : List ℕ} {a : ℕ} → Stores o a l o₁ → Stores o₁ (a + length l) m o₂ → Stores o a (l ++ m) o₂
stores-then {o} {l} {m} {o₁} {o₂} {a} x y =
    let z = stores-behind x (omega arith) y.altered in
    let f : y.lies.front ≡ z.lies.front ++ l =
    sym (take_at y.lies.front (m ++ y.lies.back) (a + length l) y.lies.long) ∙ ap (take (a + length l)) (sym y.lies.split) ∙ lies-to z.lies in
    record {
      altered = z.altered;
      lies = lies-by z.lies.front (l ++ m) (a + length l + length m)
          (lies-to y.lies ∙ ap (λ (w : List ℕ). w ++ m) f ∙ append_assoc z.lies.front l m) z.lies.long;
    }

pub stores-more : (m : List ℕ) {o l o₁ o₂ : List ℕ} {a : ℕ} → Stores o a l o₁ → o₂ ≡ splice o₁ (a + length l) m → a + length l + length m ≤ length o → Stores o a (l ++ m) o₂
stores-more m {o} {l} {o₁} {o₂} {a} x e h = stores-then x (stores-splice e (omega (arith, h, x.altered.size)))
