use Rattle.messages.specs.Rules.{length_alone}
use Rattle.messages.proofs.Lengths.{alone-fits, alone-over, alone-announced, alone-coded}
use Rattle.messages.proofs.sections.length_alone.Goals as goal

pub returns-then-fits : goal.returns-then-fits
unfolding length_alone
returns-then-fits c = search alone-fits

pub returns-then-is_yes : goal.returns-then-is_yes
unfolding length_alone
returns-then-is_yes c = search alone-announced

pub returns-in-Unstated : goal.returns-in-Unstated
unfolding length_alone
returns-in-Unstated c = simp c.in-Unstated.is

pub returns-else-fits : goal.returns-else-fits
unfolding length_alone
returns-else-fits c = rw c.at.ensures (search alone-over)

pub returns-else-is_yes : goal.returns-else-is_yes
unfolding length_alone
returns-else-is_yes c = rw c.at-in-Chunked.ensures (search alone-coded)

pub returns-in-Clashing : goal.returns-in-Clashing
unfolding length_alone
returns-in-Clashing c = simp (c.at-in-Clashing.ensures, c.in-Clashing.is)
