use Rattle.octets.proofs.Lists.{ignoring_case}
use Rattle.octets.proofs.same_name.Goals as goal

pub returns : goal.returns
returns c = ignoring_case _ _ _ c.eq_ignore_ascii_case.ensures.test
