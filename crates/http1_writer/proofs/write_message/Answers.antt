use Rattle.ranges.proofs.Entries.{held-within, served-held}
use Rattle.http1_writer.proofs.write_message.Goals as goal

pub write_named-requires : goal.write_named-requires
write_named-requires c = held-within c.requires.2

pub returns : goal.returns
returns c = served-held c.write_named.ensures
