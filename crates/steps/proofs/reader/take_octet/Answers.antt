use mathlib.Core.Path.{refl}
use Rattle.steps.proofs.Turns.{taken-data, taken-settled, taken-line}
use Rattle.steps.proofs.reader.take_octet.Goals as goal

pub returns-in-Content : goal.returns-in-Content
returns-in-Content c = taken-data c.args.st c.args.room.now c.args.b c.in-Content.is c.take_data.ensures

pub returns-in-Ended : goal.returns-in-Ended
returns-in-Ended c = taken-settled c.args.st c.args.room.now c.args.b c.in-Ended.is

pub returns-in_default : goal.returns-in_default
returns-in_default c = taken-line c.args.st c.args.room.now c.args.b c.args.st.phase refl c.in_default.not-Content c.in_default.not-Chunk c.in_default.not-Ended c.in_default.not-Refused c.take_line.ensures
