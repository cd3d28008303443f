use mathlib.Core.Path.{◌≡◌, ap, ◌∙◌}
use Rattle.std.proofs.Common.{Some}
use Rattle.turn.specs.Question.{found_part}
use Rattle.question.proofs.Laws.{cut-part}
use Rattle.question.proofs.field_or.Goals as goal

pub returns-in-Some-clause-result_value : goal.returns-in-Some-clause-result_value
returns-in-Some-clause-result_value c =
    let e : found_part c.args.a ≡ Some c.in-Some.part = ap found_part c.in-Ok.is ∙ c.in-Some.is in
    (cut-part c.args.s.now c.args.default.now c.args.s.ref_ptr c.args.default.ref_ptr e (c.requires.part _ e)).0
