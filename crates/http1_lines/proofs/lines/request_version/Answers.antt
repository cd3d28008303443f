use Rattle.http1_lines.proofs.Judges.{spaces-more, version-other, version-on}
use Rattle.http1_lines.proofs.lines.request_version.Goals as goal

pub returns-then-equal : goal.returns-then-equal
returns-then-equal c = λ h. search (version-on, c.request_parts.ensures h)

pub returns-else-equal : goal.returns-else-equal
returns-else-equal c = λ h. search version-other

pub returns : goal.returns
returns c = λ h. search spaces-more
