use Rattle.ranges.specs.Entries.{content_in}
use native.Mathlib.Omega.{arith}
use Rattle.output.proofs.Laws.{put_count, put-none}
use Rattle.output.proofs.Room.{puts, puts_then}
use Rattle.http1_writer.proofs.Body.{chunk-empty, chunk-some}
use Rattle.output.proofs.Laws.{put_as}
use Rattle.http1_writer.proofs.bodies.put_chunk.Goals as goal

pub returns-then-size-eq0 : goal.returns-then-size-eq0
returns-then-size-eq0 c = put_as (chunk-empty (content_in c.args.s.now c.args.chunks.now c.args.n) c.args.size c.requires.1 c.if-size-eq0.true) (put-none _ _)

pub put_chunks-d-requires : goal.put_chunks-d-requires
put_chunks-d-requires c = let e = chunk-some (content_in c.args.s.now c.args.chunks.now c.args.n) c.args.size c.requires.1 c.if-size-eq0.false in let p = puts_then (puts c.put_hexadecimal-a.ensures) (puts c.put_text-b.ensures) (omega (arith, e.1, c.requires.2)) in (c.requires.0, omega (arith, e.1, c.requires.1, c.requires.2, p.next, c.put_hexadecimal-a.auto, c.put_text-b.auto))

pub returns : goal.returns
returns c = let e = chunk-some (content_in c.args.s.now c.args.chunks.now c.args.n) c.args.size c.requires.1 c.if-size-eq0.false in put_as e (puts_then (puts_then (puts_then (puts c.put_hexadecimal-a.ensures) (puts c.put_text-b.ensures)) (λ _. put_count c.requires.1 c.put_chunks-d.ensures)) (puts c.put_text.ensures) (omega (arith, e.1, c.requires.2)))
