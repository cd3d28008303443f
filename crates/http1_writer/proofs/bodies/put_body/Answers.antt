use native.Mathlib.Omega.{arith}
use Rattle.output.proofs.Laws.{put_count}
use Rattle.output.proofs.Room.{puts, puts_then}
use Rattle.http1_writer.proofs.Body.{body-plain, body-chunked}
use Rattle.output.proofs.Laws.{put_as}
use Rattle.http1_writer.proofs.bodies.put_body.Goals as goal

pub put_chunks-requires : goal.put_chunks-requires
put_chunks-requires c = (c.requires.0, omega (arith, (body-plain c.args.s.now c.args.trailers.now c.args.s.now c.args.size c.args.count c.if-count-eq0.true).1, c.requires.1, c.requires.3))

pub returns-then-count-eq0 : goal.returns-then-count-eq0
returns-then-count-eq0 c = put_as (body-plain c.args.s.now c.args.trailers.now _ c.args.size c.args.count c.if-count-eq0.true) (put_count c.requires.1 c.put_chunks.ensures)

pub put_chunk-a-requires : goal.put_chunk-a-requires
put_chunk-a-requires c = (c.requires.0, c.requires.1, omega (arith, (body-chunked c.args.s.now c.args.trailers.now c.args.s.now c.args.size c.args.count c.if-count-eq0.false).1, c.requires.3))

pub put_section-requires : goal.put_section-requires
put_section-requires c = let e = (body-chunked c.args.s.now c.args.trailers.now c.args.s.now c.args.size c.args.count c.if-count-eq0.false).1 in let p = puts_then (puts_then (λ _. c.put_chunk-a.ensures) (puts c.put_octet-b.ensures)) (puts c.put_text-d.ensures) (omega (arith, e, c.requires.3)) in (c.requires.2, omega (arith, e, c.requires.3, p.next, c.put_chunk-a.auto, c.put_octet-b.auto, c.put_text-d.auto))

pub returns : goal.returns
returns c = let e = body-chunked c.args.s.now c.args.trailers.now _ c.args.size c.args.count c.if-count-eq0.false in put_as e (puts_then (puts_then (puts_then (λ _. c.put_chunk-a.ensures) (puts c.put_octet-b.ensures)) (puts c.put_text-d.ensures)) (λ _. c.put_section.ensures) (omega (arith, e.1, c.requires.3)))
