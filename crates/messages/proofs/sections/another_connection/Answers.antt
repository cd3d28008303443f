use Rattle.octets.proofs.Kit.{kit}
use Rattle.messages.specs.Notes.{another_connection}
use Rattle.messages.proofs.sections.another_connection.Goals as goal

pub returns-then-connections-lt-LINES : goal.returns-then-connections-lt-LINES
unfolding another_connection
returns-then-connections-lt-LINES c = search kit

pub returns : goal.returns
unfolding another_connection
returns c = search kit
