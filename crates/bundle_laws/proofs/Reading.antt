-- The reader's claims, by `walk-front` and `walk-back`.
use Prim.Native.Nat.{ℕ, ◌+◌, ◌-◌, ◌≤◌}
use mathlib.Core.Path.{◌≡◌, refl, sym, ap, ◌∙◌}
use mathlib.Core.List.{List, [], ◌∷◌, append-nil}
use native.Mathlib.Omega.{arith}
use lib.ListN.{length}
use Rattle.sound.specs.Placed.{Each}
use Rattle.bundle.specs.Bundle.{Entry, entries_octets, ends_at, follows, walk_from, walk}
use Rattle.bundle.proofs.Heads.{next-end}
use Rattle.bundle.proofs.Walks.{walk-end, few-entries}
use Rattle.bundle_laws.specs.Reading.{InForm, IsBundle, Fronted, Reading}
use Rattle.bundle_laws.proofs.Walks.{prepend, walk-back, walk-front}

pub front : (s : List ℕ) → Fronted (walk s) 0 s
unfolding walk
front s = walk-front 256 0 s

pub octets-of : (s : List ℕ) → (walk s).stop ≡ 0 → s ≡ entries_octets (walk s).entries
octets-of s e = let f = front s in f.split ∙ rw (f.ended e) (append-nil (entries_octets (walk s).entries))

prepended : (es : List Entry) (n k : ℕ) → prepend es (ends_at n k) ≡ record { entries = es; end = n; stop = k }
prepended [] n k = refl
prepended (e ∷ es) n k = ap (follows e) (prepended es n k)

pub back : (es : List Entry) → Each InForm es → length es ≤ 256 → IsBundle (entries_octets es) es
unfolding walk
back es g h =
    let s = entries_octets es in
    let q = walk-back es g 256 0 [] h in
    let z = walk-end (256 - length es) (0 + length s) [] (next-end [] 0 (256 - length es) (omega arith)) in
    let b : 0 + length s ≡ length s = omega arith in
    ap (walk_from 256 0) (sym (append-nil s)) ∙ q ∙ ap (prepend es) z ∙ prepended es (0 + length s) 0 ∙ rw b

pub is-bundle : (s : List ℕ) → (walk s).stop ≡ 0 → IsBundle s (walk s).entries
is-bundle s e =
    let f = front s in
    let l : (walk s).end ≡ length s = f.place ∙ rw (← (octets-of s e)) (omega arith) in
    rw (sym l, sym e)

pub reading : Reading
reading = record { front = front; few = few-entries; octets = λ s e. (octets-of s e, is-bundle s e); back = back }
