use Rattle.http1_writer.proofs.Length.{silent-former, silent-method}
use Rattle.http1_writer.proofs.lengths.is_silent.Goals as goal

pub returns-then-is_yes : goal.returns-then-is_yes
returns-then-is_yes c = silent-former _ _ c.is_yes.ensures c.if-is_yes.true

pub returns : goal.returns
returns c = silent-method _ c.args.s.now _ _ c.requires c.is_yes.ensures c.if-is_yes.false c.is_get_or_head.ensures
