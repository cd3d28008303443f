use mathlib.Core.Path.{sym, ◌∙◌}
use Rattle.steps.proofs.Turns.{data_is}
use Rattle.steps.proofs.many.may_pass.Goals as goal

pub pass_count-requires : goal.pass_count-requires
pass_count-requires c = (data_is _ c.is_data.ensures c.if-is_data.true, sym c.is_data.ensures ∙ c.if-is_data.true, sym c.is_counted.ensures ∙ c.if-is_counted.true)
