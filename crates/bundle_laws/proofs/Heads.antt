-- The head of an appended entry, read back.
use Prim.Native.Nat.{ℕ, ◌+◌, ◌*◌, ◌/◌, ◌%◌, ◌≤◌, ◌<◌}
use mathlib.Core.Path.{◌≡◌, refl, sym, ap, ◌∙◌}
use mathlib.Core.List.{List, [], ◌∷◌}
use native.Mathlib.Omega.{arith}
use Rattle.numbers.specs.Places.{push}
use Rattle.numbers.specs.Integer.{plain}
use Rattle.bundle.specs.Bundle.{word_of, flock_of, delivered_of, kind_of, length_of, head_of, head_octets}

pub word_back : (w : ℕ) → w < 4294967296 → word_of (head_octets w) ≡ w
unfolding word_of head_octets push
word_back w h = omega arith

module _ (f kind n : ℕ) (hf : f ≤ 127) (hk : kind ≤ 1) (hn : n ≤ 65535) where
  pub head_small : head_of f 0 kind n < 4294967296
  head_small = omega arith

  pub head-flock : flock_of (head_of f 0 kind n) ≡ f
  head-flock = omega arith

  pub head-delivered : delivered_of (head_of f 0 kind n) ≡ 0
  head-delivered = omega arith

  pub head-kind : kind_of (head_of f 0 kind n) ≡ kind
  head-kind = omega arith

  pub head-length : length_of (head_of f 0 kind n) ≡ n
  head-length = omega arith
