-- The claims on lists: a flock's entries are good ones, so their octets are a bundle again.
use Prim.Native.Nat.{ℕ, ◌+◌, ◌≤◌}
use mathlib.Core.Path.{◌≡◌, refl, sym, ap, ◌∙◌}
use mathlib.Core.Bool.{Bool, true, false, cond}
use mathlib.Core.Logic.{◌↔◌}
use mathlib.Core.List.{List, [], ◌∷◌, ◌++◌}
use native.Mathlib.Omega.{arith}
use borrow.Author.Tests.{eq-eqb, eqb-true}
use lib.Dec.{eqb}
use lib.ListN.{length}
use Rattle.octets.specs.Refusals.{bad_entry}
use Rattle.octets.proofs.Kit.{into}
use Rattle.sound.specs.Placed.{Each}
use Rattle.output.specs.Reply.{Reply, writes, refuses}
use Rattle.bundle.specs.Bundle.{is_flock, Entry, entries_octets, Walk, walk, pick_if, is_of, of_flock, flock_list}
use Rattle.bundle.proofs.Walks.{few-entries}
use Rattle.bundle_laws.specs.Reading.{InForm, IsBundle}
use Rattle.bundle_laws.specs.Listing.{Listing}
use Rattle.bundle_laws.proofs.Reading.{front, back}

pub given : (f : ℕ) (s : List ℕ) → is_flock f ≡ true → (walk s).stop ≡ 0 → flock_list f s ≡ writes (entries_octets (of_flock f (walk s).entries))
unfolding flock_list
given f s h e = rw (eq-eqb (walk s).stop 0 e, h)

no-list : {k p : ℕ} {l : List ℕ} → refuses k p ≡ writes l → ⊥
no-list e = let z : ◌≡◌ {A = ℕ} 0 1 = cc in omega arith

pub accepted-by : (f : ℕ) (s l : List ℕ) → flock_list f s ≡ writes l → (is_flock f ≡ true) × ((walk s).stop ≡ 0)
unfolding flock_list
accepted-by f s l e =
    let a = into no-list (eqb (walk s).stop 0) _ e in
    let b = into no-list (is_flock f) _ a.1 in
    (b.0, eqb-true (walk s).stop 0 a.0)

written : {a b : List ℕ} → writes a ≡ writes b → a ≡ b
written e = cc

list-is : (f : ℕ) (s l : List ℕ) → flock_list f s ≡ writes l → l ≡ entries_octets (of_flock f (walk s).entries)
list-is f s l e = let a = accepted-by f s l e in written (sym e ∙ given f s a.0 a.1)

pick_good : (b : Bool) (e : Entry) (es : List Entry) → InForm e → Each InForm es → Each InForm (pick_if b e es)
pick_good true e es g h = (g, h)
pick_good false e es g h = h

pub flock-good : (f : ℕ) (es : List Entry) → Each InForm es → Each InForm (of_flock f es)
unfolding of_flock
flock-good f [] h = tt
flock-good f (e ∷ es) h = pick_good (is_of f e) e (of_flock f es) h.0 (flock-good f es h.1)

pick-few : (b : Bool) (e : Entry) (es : List Entry) (n : ℕ) → length es ≤ n → length (pick_if b e es) ≤ n + 1
pick-few true e es n h = omega arith
pick-few false e es n h = omega arith

flock-few : (f : ℕ) (es : List Entry) → length (of_flock f es) ≤ length es
unfolding of_flock
flock-few f [] = omega arith
flock-few f (e ∷ es) = let h = pick-few (is_of f e) e (of_flock f es) (length es) (flock-few f es) in omega (arith, h)

pub list-bundle : (f : ℕ) (s l : List ℕ) → flock_list f s ≡ writes l → IsBundle l (of_flock f (walk s).entries)
list-bundle f s l e =
    let es = (walk s).entries in
    let q = list-is f s l e in
    rw q (back (of_flock f es) (flock-good f es (front s).good) (omega (arith, flock-few f es, few-entries s)))

same : (f : ℕ) (s t l m : List ℕ) → flock_list f s ≡ writes l → flock_list f t ≡ writes m → (l ≡ m) ↔ (of_flock f (walk s).entries ≡ of_flock f (walk t).entries)
same f s t l m a b = (to, from)
  where
    to : l ≡ m → of_flock f (walk s).entries ≡ of_flock f (walk t).entries
    to e = sym (ap (λ (w : Walk). w.entries) (list-bundle f s l a)) ∙ ap (λ (x : List ℕ). (walk x).entries) e ∙ ap (λ (w : Walk). w.entries) (list-bundle f t m b)

    from : of_flock f (walk s).entries ≡ of_flock f (walk t).entries → l ≡ m
    from e = list-is f s l a ∙ ap entries_octets e ∙ sym (list-is f t m b)

pub listing : Listing
listing = record { given = given; accepted = accepted-by; same = same; bundle = list-bundle }
