use Rattle.std.proofs.lemmas.Result.{err_from_is_err_and}
use Rattle.http1_parts.proofs.Contents.{trailers-stopped, trailers-good, trailers-bad}
use Rattle.http1_parts.proofs.content.read_trailers.Goals as goal

pub returns-in_err-section : goal.returns-in_err-section
returns-in_err-section c = let p = err_from_is_err_and c.from_residual.result c.from_residual.ensures.1 in rw (p.1, p.2) (trailers-stopped c.args.s.now c.args.from _ _ c.in_err-section.ensures)

pub returns-then-are_trailers : goal.returns-then-are_trailers
returns-then-are_trailers c = trailers-good c.args.s.now c.args.from _ _ c.in_ok-section.ensures c.are_trailers.ensures c.if-are_trailers.true

pub returns : goal.returns
returns c = rw c.at.ensures (trailers-bad c.args.s.now c.args.from _ _ c.in_ok-section.ensures c.are_trailers.ensures c.if-are_trailers.false)
