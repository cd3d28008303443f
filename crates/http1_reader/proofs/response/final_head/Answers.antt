use Rattle.std.proofs.lemmas.Result.{err_from_is_err_and}
use Rattle.ranges.specs.Ranges.{AnyHeads}
use Rattle.http1_reader.proofs.ResponseHeads.{headed-stopped, final-ends}
use Rattle.http1_reader.proofs.response.final_head.Goals as goal

pub returns-in_err-section : goal.returns-in_err-section
returns-in_err-section c = let p = err_from_is_err_and c.from_residual.result c.from_residual.ensures.1 in rw (p.1, p.2) (headed-stopped c.args.s.now _ _ _ AnyHeads (λ is u v. v is c.args.status) c.in_err-section.ensures)

pub returns : goal.returns
returns c = final-ends c.args.s.now _ _ _ c.requires.0 c.requires.1 c.in_ok-section.ensures _
