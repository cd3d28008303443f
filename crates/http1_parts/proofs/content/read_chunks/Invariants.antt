use Prim.Native.Nat.{suc, ◌+◌, ◌-◌, ◌*◌, ◌≤◌}
use mathlib.Core.Path.{◌≡◌}
use mathlib.Core.List.{List}
use lib.ListN.{length, drop}
use Rattle.octets.specs.Limits.{chunks_most, content_most}
use Rattle.script.specs.Script.{run}
use Rattle.script.specs.Do.{Piece}
use Rattle.output.specs.Splice.{splice}
use Rattle.messages.specs.Meaning.{content_of}
use Rattle.messages.specs.Answers.{chunks_numbers}
use Rattle.messages.specs.declared.Body.TheVariants.{InChunks}
use Rattle.http1_lines.specs.Read.{chunks_from, content}
use Rattle.http1_parts.proofs.content.read_chunks.Given as goal

abbrev pub invariant-loop-end : goal.invariant-loop-end
invariant-loop-end l = (cs : List Piece) × (length cs ≡ l.count) × (l.count ≤ chunks_most) × (length (content_of cs) ≡ l.total) × (l.total ≤ content_most) × (l.i ≤ length l.s) × (l.i ≤ l.from + l.count * 258 + l.total) × (length l.chunks ≡ length l.initial.chunks) × (l.trailers ≡ l.initial.trailers) × (l.chunks ≡ splice l.initial.chunks 0 (chunks_numbers cs)) × (run (content InChunks) l.from (drop l.from l.s) ≡ run (chunks_from (suc (chunks_most - l.count)) cs l.total) l.i (drop l.i l.s))

abbrev pub decreases-loop-end : goal.decreases-loop-end
decreases-loop-end l = chunks_most - l.count
