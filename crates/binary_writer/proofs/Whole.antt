-- What the public writer answers, by the length of what is to be written.
use Prim.Native.Nat.{ℕ, ◌≤◌, ◌<◌}
use mathlib.Core.Path.{◌≡◌}
use mathlib.Core.List.{List}
use native.Mathlib.Omega.{arith}
use lib.ListN.{length}
use borrow.Author.Tests.{le-leb, lt-leb}
use Rattle.octets.specs.Limits.{binary_most}
use Rattle.octets.specs.Refusals.{too_large, no_room, refused_at}
use Rattle.output.specs.Splice.{Put}
use Rattle.output.specs.Reply.{writes, Served}
use Rattle.output.proofs.Serve.{serve-wrong, serve-small, serve-done}
use Rattle.messages.specs.Meaning.{Meaning}
use Rattle.binary_writer.specs.Write.{binary_of, binary_fits, to_binary}
use Rattle.std.proofs.Common.{Ok, Err}

module _ (m : Meaning) {n : ℕ} (e : length (binary_of m) ≡ n) where
  -- above the size of a Binary input
  pub binary-large : (o : List ℕ) → binary_most < n → Served (to_binary m) o o (Err (refused_at too_large 0))
  unfolding to_binary binary_fits
  binary-large o h =
      let k : binary_most < length (binary_of m) = omega (arith, e, h) in
      rw (lt-leb _ _ k) (serve-wrong o too_large 0)

  binary-octets : n ≤ binary_most → to_binary m ≡ writes (binary_of m)
  unfolding to_binary binary_fits
  binary-octets h =
      let k : length (binary_of m) ≤ binary_most = omega (arith, e, h) in
      rw (le-leb _ _ k)

  -- too little room
  pub binary-small : {o : List ℕ} → n ≤ binary_most → length o < n → Served (to_binary m) o o (Err (refused_at no_room 0))
  binary-small {o} h l =
      let k : length o < length (binary_of m) = omega (arith, e, l) in
      rw (binary-octets h) (serve-small k)

  pub binary-done : {o o' : List ℕ} {r : ℕ} → n ≤ binary_most → n ≤ length o → Put o 0 (binary_of m) n o' r → Served (to_binary m) o o' (Ok r)
  binary-done h l p = rw (binary-octets h) (serve-done l p)
