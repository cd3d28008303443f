use Rattle.octets.proofs.Kit.{kit, no_true}
use Rattle.messages.proofs.Picks.{by-table}
use Rattle.http1_lines.proofs.Judges.{shape-short, shape-first, shape-second, shape-third, shape-reason, shape-space}
use Rattle.http1_lines.proofs.lines.is_status_shape.Goals as goal

pub returns-then-w-v : goal.returns-then-w-v
returns-then-w-v c = (λ x. absurd (no_true x), λ h. search shape-short)

pub returns-then-digit-ge10 : goal.returns-then-digit-ge10
returns-then-digit-ge10 c = (λ x. absurd (no_true x), λ h. search shape-first)

pub returns-then-digit-ge10-2 : goal.returns-then-digit-ge10-2
returns-then-digit-ge10-2 c = (λ x. absurd (no_true x), λ h. search shape-second)

pub returns-then-digit-ge10-3 : goal.returns-then-digit-ge10-3
returns-then-digit-ge10-3 c = (λ x. absurd (no_true x), λ h. search shape-third)

pub returns-then-w-v-eq32 : goal.returns-then-w-v-eq32
returns-then-w-v-eq32 c = (λ x. search kit, λ h. search (shape-reason, by-table h))

pub returns : goal.returns
returns c = (λ x. absurd (no_true x), λ h. search shape-space)
