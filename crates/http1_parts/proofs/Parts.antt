-- Parts of parts of a list, as code takes them.
use Prim.Native.Nat.{ℕ, ◌+◌, ◌-◌, ◌≤◌}
use mathlib.Core.Path.{◌≡◌}
use mathlib.Core.List.{List}
use native.Mathlib.Omega.{arith}
use lib.ListN.{length, take, drop, length-drop}
use lib.Seq.{length-take-le, take-take, drop-drop}
pub use Rattle.http1_lines.proofs.Views.{drop-take}

-- the first n octets of the part from i to e
pub part-front : (s : List ℕ) (i e n : ℕ) → n ≤ e - i → take (i + n - i) (drop i s) ≡ take n (take (e - i) (drop i s))
part-front s i e n h =
    let a : i + n - i ≡ n = omega arith in
    rw (a, take-take n (e - i) (drop i s) h)

-- l octets from b on in the part from i to e
pub part-inner : (s : List ℕ) (i e b l : ℕ) → b + l ≤ e - i → take (i + b + l - (i + b)) (drop (i + b) s) ≡ take l (drop b (take (e - i) (drop i s)))
part-inner s i e b l h =
    let a : i + b + l - (i + b) ≡ l = omega arith in
    let g : l ≤ e - i - b = omega arith in
    rw (a, drop-take b (e - i) (drop i s), drop-drop b i s, take-take l (e - i - b) (drop (i + b) s) g)

-- a part within the list has its length
pub part-long : (s : List ℕ) (i e : ℕ) → i ≤ e → e ≤ length s → length (take (e - i) (drop i s)) ≡ e - i
part-long s i e h g = length-take-le (e - i) (drop i s) (omega (arith, length-drop i s))
