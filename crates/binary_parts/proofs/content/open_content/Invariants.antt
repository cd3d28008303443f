use Prim.Native.Nat.{suc, ◌-◌, ◌≤◌}
use mathlib.Core.Path.{◌≡◌}
use mathlib.Core.List.{List}
use lib.ListN.{length, drop}
use Rattle.octets.specs.Limits.{chunks_most, content_most}
use Rattle.script.specs.Do.{Piece}
use Rattle.output.specs.Splice.{splice}
use Rattle.messages.specs.Meaning.{content_of}
use Rattle.messages.specs.Answers.{chunks_numbers}
use Rattle.binary.specs.Reader.{cursor}
use Rattle.binary.specs.Read.{open_chunks, open_content}
use Rattle.binary_parts.proofs.content.open_content.Given as goal

abbrev pub invariant-loop-end : goal.invariant-loop-end
invariant-loop-end l = (cs : List Piece) × (length cs ≡ l.count) × (l.count ≤ chunks_most) × (length (content_of cs) ≡ l.total) × (l.total ≤ content_most) × (l.i ≤ length l.s) × (length l.out ≡ length l.initial.out) × (l.out ≡ splice l.initial.out 0 (chunks_numbers cs)) × (open_content (cursor l.initial.i l.initial.longs) (drop l.initial.i l.s) ≡ open_chunks (suc (chunks_most - l.count)) cs l.total (cursor l.i l.longs) (drop l.i l.s)) × (l.longs ≤ l.i)

abbrev pub decreases-loop-end : goal.decreases-loop-end
decreases-loop-end l = chunks_most - l.count
