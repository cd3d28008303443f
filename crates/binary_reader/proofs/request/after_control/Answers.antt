use Rattle.std.proofs.lemmas.Result.{err_from_is_err_and}
use mathlib.Core.Path.{refl}
use Rattle.binary_parts.proofs.SectionLines.{header-lines}
use Rattle.binary_reader.proofs.SectionOutcomes.{section-no, section-done}
use Rattle.binary_reader.proofs.RequestLaws.{head-no, head_done}
use Rattle.binary_reader.proofs.request.after_control.Goals as goal

pub returns-in_err-head : goal.returns-in_err-head
returns-in_err-head c = let p = err_from_is_err_and c.from_residual.result c.from_residual.ensures.1 in rw (p.1, p.2) (head-no c.args.s.now _ _ _ (section-no c.in_err-head.ensures refl))

pub returns : goal.returns
returns c = head_done c.args.s.now _ _ _ (section-done c.in_ok-head.ensures (header-lines _ c.args.s.now _ c.requires.0 c.requires.6) refl) c.after_head.ensures
