use Rattle.std.proofs.lemmas.Result.{err_from_is_err_and}
use Rattle.http1_lines.proofs.Judges.{version-bad, status-good, status-bad}
use Rattle.http1_lines.proofs.lines.status_version.Goals as goal

pub returns-in_err-status_verdict : goal.returns-in_err-status_verdict
returns-in_err-status_verdict c =
    let p = err_from_is_err_and c.from_residual.result c.from_residual.ensures.1 in
    rw (p.1, p.2) (status-bad _ _ c.equal.ensures c.if-equal.true c.status_at-n.ensures.0 c.status_verdict.ensures c.in_err-status_verdict.was)

pub returns-then-equal : goal.returns-then-equal
returns-then-equal c = status-good _ _ c.equal.ensures c.if-equal.true c.status_at-n.ensures.0 c.status_verdict.ensures c.in_ok-status_verdict.was

pub returns-else-equal : goal.returns-else-equal
returns-else-equal c = search version-bad
