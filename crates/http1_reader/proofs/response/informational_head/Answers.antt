use Rattle.std.proofs.lemmas.Result.{err_from_is_err_and}
use Rattle.ranges.specs.Ranges.{FewHeads}
use Rattle.http1_lines.specs.Read.{after_informational}
use Rattle.http1_reader.proofs.ResponseHeads.{headed-stopped, informational-states, informational-ends}
use Rattle.http1_reader.proofs.response.informational_head.Goals as goal

pub returns-in_err-section : goal.returns-in_err-section
returns-in_err-section c = let p = err_from_is_err_and c.from_residual.result c.from_residual.ensures.1 in rw (p.1, p.2) (headed-stopped c.args.s.now _ _ _ FewHeads (λ is u v. after_informational u is c.args.status) c.in_err-section.ensures)

pub returns-in_err-nothing_stated : goal.returns-in_err-nothing_stated
returns-in_err-nothing_stated c = let p = err_from_is_err_and c.from_residual-in_err-nothing_stated.result c.from_residual-in_err-nothing_stated.ensures.1 in rw (p.1, p.2) (informational-states c.args.s.now _ _ _ c.requires.0 c.requires.1 c.in_ok-section.ensures _ c.in_err-nothing_stated.ensures)

pub returns : goal.returns
returns c = informational-ends c.args.s.now _ _ _ c.requires.0 c.requires.1 c.in_ok-section.ensures _ c.in_ok-nothing_stated.ensures
