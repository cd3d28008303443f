use Rattle.ranges.proofs.Entries.{held-within, served-held}
use Rattle.binary_writer.proofs.write_message.Goals as goal

pub write_within-requires : goal.write_within-requires
write_within-requires c = held-within c.requires.2

pub returns : goal.returns
returns c = served-held c.write_within.ensures
