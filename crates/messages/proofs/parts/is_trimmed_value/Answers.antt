use Rattle.messages.specs.Control.{is_trimmed_value}
use Rattle.messages.proofs.Picks.{picks, by-table}
use Rattle.messages.proofs.Values.{trimmed-is, trimmed-not}
use Rattle.messages.proofs.parts.is_trimmed_value.Goals as goal

pub returns-then-blank_end-eq0 : goal.returns-then-blank_end-eq0
unfolding is_trimmed_value
returns-then-blank_end-eq0 c = λ h. search (trimmed-is, by-table h)

pub returns-else-blank_end-eq0 : goal.returns-else-blank_end-eq0
unfolding is_trimmed_value
returns-else-blank_end-eq0 c = λ h. search (trimmed-not, by-table h)

pub returns-else-all_of : goal.returns-else-all_of
unfolding is_trimmed_value
returns-else-all_of c = λ h. search (picks, by-table h)
