use Rattle.bundle_edit.proofs.Sweeping.{placed-within, placed-finds}
use Rattle.bundle_edit.proofs.delivery.entry_in.Goals as goal

pub word_at-word-requires : goal.word_at-word-requires
word_at-word-requires c = placed-within c.args.s.now c.requires.0 c.requires.1 c.entry_place-at.ensures

pub returns : goal.returns
returns c = placed-finds c.args.s.now c.requires.0 c.requires.1 c.entry_place-at.ensures c.word_at-word.ensures
