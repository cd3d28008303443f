use Rattle.bundle.proofs.Heads.{word_at}
use Rattle.bundle.proofs.entry.word_at.Goals as goal

pub returns : goal.returns
returns c = rw (c.wide-a.ensures.0, c.wide-b.ensures.0, c.wide-c.ensures.0, c.wide-d.ensures.0) (word_at c.args.s.now c.args.at)
