use native.Mathlib.Omega.{arith}
use Rattle.std.proofs.lemmas.Result.{err_from_is_err_and}
use Rattle.http1_parts.proofs.Outcomes.{section-stopped, section-done, behind-stopped}
use Rattle.http1_reader.specs.Readers.{request_is}
use Rattle.http1_reader.proofs.RequestHeads.{outcomed-stopped, head-lines, head-within, head-facts, head_done}
use Rattle.http1_reader.proofs.request.read_head.Goals as goal

pub returns-in_err-section : goal.returns-in_err-section
returns-in_err-section c = let p = err_from_is_err_and c.from_residual.result c.from_residual.ensures.1 in rw (p.1, p.2) (outcomed-stopped _ (behind-stopped _ _ c.args.s.now c.args.next _ (section-stopped c.in_err-section.ensures)))

pub read_rest-requires : goal.read_rest-requires
read_rest-requires c = let d = section-done c.in_ok-section.ensures in let w = head-within c.args.s.now c.args.line c.args.next c.requires.0 c.requires.1 c.requires.2 c.requires.3 d in (w.0, w.1, omega (arith, c.requires.1, c.requires.3), c.requires.5, c.requires.6, (request_is c.args.s.now c.args.next c.args.line, head-lines c.args.s.now c.args.line c.args.next c.requires.0 c.requires.1 c.requires.2 c.requires.3 d, head-facts c.args.s.now c.args.line c.args.next c.requires.0 c.requires.1 c.requires.2 c.requires.3 d))

pub returns : goal.returns
returns c = head_done c.args.s.now c.args.line c.args.next c.requires.0 c.requires.1 c.requires.2 c.requires.3 (section-done c.in_ok-section.ensures) c.args.told _ _ _ _ _ c.read_rest.ensures
