use Rattle.octets.proofs.Kit.{kit}
use Rattle.http1_lines.specs.Lines.{request_parts}
use Rattle.http1_lines.proofs.Judges.{method-bad, target-bad, parts-on}
use Rattle.http1_lines.proofs.lines.request_parts.Goals as goal

pub returns-in_err-method_verdict : goal.returns-in_err-method_verdict
unfolding request_parts
returns-in_err-method_verdict c = λ h. search (kit, method-bad, c.method_verdict.ensures h)

pub returns-in_err-target : goal.returns-in_err-target
unfolding request_parts
returns-in_err-target c = λ h. search (kit, target-bad, c.method_verdict.ensures h, c.request_target.ensures h)

pub returns : goal.returns
returns c = λ h. search (kit, parts-on, c.method_verdict.ensures h, c.request_target.ensures h)
