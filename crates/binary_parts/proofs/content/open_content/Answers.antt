use native.Mathlib.Omega.{arith}
use Prim.Native.Nat.{◌*◌}
use mathlib.Core.Path.{refl, ap, ◌∙◌}
use mathlib.Core.List.{[], ◌∷◌, ◌++◌}
use lib.ListN.{length, take, drop, length-append}
use Rattle.script.specs.Do.{piece}
use Rattle.output.proofs.Laws.{splice-length}
use Rattle.messages.specs.Meaning.{content_of}
use Rattle.messages.specs.Answers.{chunks_numbers}
use Rattle.binary_parts.proofs.Contents.{contented-got, chunk-bounds, last-bounds, last-said, next-said, content-next, chunk-stored}
use Rattle.binary_parts.proofs.content.open_content.Goals as goal

pub loop-end-init : goal.loop-end-init
unfolding chunks_numbers content_of
loop-end-init c = ([], refl, omega arith, refl, omega arith, c.requires.0, refl, refl, refl, c.requires.3)

pub loop-end-preserved : goal.loop-end-preserved
loop-end-preserved c = let b = chunk-bounds c.in_ok-end.ensures c.in-Next.is in (c.loop-end.invariant.0 ++ piece c.in-Next.start (take c.in-Next.len (drop c.in-Next.start c.args.s.now)) ∷ [], length-append c.loop-end.invariant.0 (piece c.in-Next.start (take c.in-Next.len (drop c.in-Next.start c.args.s.now)) ∷ []) ∙ omega (arith, c.loop-end.invariant.1), omega (arith, b), content-next c.args.s.now c.in-Next.start c.in-Next.len b.0 c.loop-end.invariant.0 c.loop-end.invariant.3, b.1, b.0, ap length c.store.ensures ∙ splice-length c.loop-end.out (c.loop-end.count * 2) (c.in-Next.start ∷ c.in-Next.len ∷ []) ∙ c.loop-end.invariant.6, chunk-stored c.args.s.now c.in-Next.start c.in-Next.len b.0 c.loop-end.invariant.0 _ c.loop-end.invariant.1 c.loop-end.invariant.7 c.store.ensures, next-said c.in_ok-end.ensures c.loop-end.invariant.0 c.loop-end.invariant.1 c.loop-end.invariant.8 c.in-Next.is, b.3)

pub returns-in-Last : goal.returns-in-Last
returns-in-Last c = contented-got c.loop-end.invariant.0 (last-said c.in_ok-end.ensures c.loop-end.invariant.0 c.loop-end.invariant.1 c.loop-end.invariant.8 c.in-Last.is) (last-bounds c.in_ok-end.ensures c.in-Last.is) c.loop-end.invariant.1 c.loop-end.invariant.3 c.loop-end.invariant.7
