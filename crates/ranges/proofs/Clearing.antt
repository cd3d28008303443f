-- A reader's answer by value, which is made by clearing numbers from a place on.
use Prim.Native.Nat.{ℕ, ◌+◌, ◌*◌, ◌≤◌}
use mathlib.Core.Path.{◌≡◌, subst}
use mathlib.Core.List.{List}
use lib.ListN.{length}
use Rattle.octets.specs.Limits.{lines_most, informational_most}
use Rattle.messages.specs.Room.{informational_room}
use Rattle.messages.specs.declared.Record.{Record}
use Rattle.messages.specs.Answers.{Outcome}
use Rattle.std.proofs.Common.{Ok}
use Rattle.ranges.specs.Entries.{fields_before}
use Rattle.ranges.specs.Ranges.{SmallRecord, CountsWithin, ranges_with, cleared_from, reading_from}

-- the counts of an outcome that is a message
pub counts-message : (ns : List ℕ) {o : Outcome} {r : Record} → o ≡ Ok r → CountsWithin o ns
    → SmallRecord r × (informational_room ≤ length ns) × (fields_before ns r.informational ≤ informational_most * lines_most)
counts-message ns e h = subst (λ (x : Outcome). CountsWithin x ns) e h

-- its answer: what stands behind the counts is cleared
pub reading-message : (hs ts : List ℕ) {o : Outcome} {r : Record} {ns hs' ts' cs : List ℕ} {f : ℕ} → o ≡ Ok r → f ≡ fields_before ns r.informational
    → hs' ≡ cleared_from ((f + r.headers) * 4) hs → ts' ≡ cleared_from (r.trailers * 4) ts
    → record { outcome = Ok r; ranges = ranges_with ns hs' ts' cs } ≡ reading_from o ns hs ts cs
reading-message hs ts e z h t = rw (e, h, t, z)
