use native.Mathlib.Omega.{arith}
use Prim.Native.Nat.{◌*◌}
use mathlib.Core.Path.{refl, ap, ◌∙◌}
use mathlib.Core.List.{[], ◌∷◌, ◌++◌}
use lib.ListN.{length, take, drop, length-append}
use Rattle.script.specs.Do.{piece}
use Rattle.output.proofs.Laws.{splice-length}
use Rattle.messages.specs.Meaning.{content_of}
use Rattle.messages.specs.Answers.{chunks_numbers}
use Rattle.http1_lines.specs.Read.{content}
use Rattle.http1_parts.proofs.Contents.{chunk-bounds, last-said, next-said, chunks-end, content-next, chunk-stored}
use Rattle.http1_parts.proofs.content.read_chunks.Goals as goal

pub loop-end-init : goal.loop-end-init
unfolding content chunks_numbers content_of
loop-end-init c = ([], refl, omega arith, refl, omega arith, c.requires.0, omega arith, refl, refl, refl, refl)

pub loop-end-preserved : goal.loop-end-preserved
loop-end-preserved c = let b = chunk-bounds c.in_ok-end.ensures c.in-Next.is in (c.loop-end.invariant.0 ++ piece c.in-Next.data.start (take c.in-Next.data.len (drop c.in-Next.data.start c.args.s.now)) ∷ [], length-append c.loop-end.invariant.0 (piece c.in-Next.data.start (take c.in-Next.data.len (drop c.in-Next.data.start c.args.s.now)) ∷ []) ∙ omega (arith, c.loop-end.invariant.1), omega (arith, b), content-next c.args.s.now c.in-Next.data.start c.in-Next.data.len b.1 c.loop-end.invariant.0 c.loop-end.invariant.3, b.2, b.1, omega (arith, b, c.loop-end.invariant.6), ap length c.store.ensures ∙ splice-length c.loop-end.chunks (c.loop-end.count * 2) (c.in-Next.data.start ∷ c.in-Next.data.len ∷ []) ∙ c.loop-end.invariant.7, c.loop-end.invariant.8, chunk-stored c.args.s.now c.in-Next.data.start c.in-Next.data.len b.1 c.loop-end.invariant.0 _ c.loop-end.invariant.1 c.loop-end.invariant.9 c.store.ensures, next-said c.in_ok-end.ensures c.loop-end.invariant.0 c.loop-end.invariant.1 c.loop-end.invariant.10 c.in-Next.is)

pub returns-in-Last : goal.returns-in-Last
returns-in-Last c = chunks-end c.loop-end.invariant.0 (last-said c.in_ok-end.ensures c.loop-end.invariant.0 c.loop-end.invariant.1 c.loop-end.invariant.10 c.in-Last.is) c.read_trailers.ensures c.loop-end.invariant.8 c.loop-end.invariant.1 c.loop-end.invariant.3 c.loop-end.invariant.9
