use Rattle.turn.specs.Question.{binary_question}
use Rattle.question.proofs.Laws.{binary-lies, found_within, answered}
use Rattle.question.proofs.binary_field.Goals as goal

pub field_or-requires : goal.field_or-requires
field_or-requires c = found_within c.args.s.now (binary_question c.args.told c.args.name.now c.args.s.now) c.binary_found-a.ensures (binary-lies c.args.s.now c.args.name.now c.args.told)

pub returns : goal.returns
returns c = answered c.args.s.now (binary_question c.args.told c.args.name.now c.args.s.now) c.binary_found-a.ensures (binary-lies c.args.s.now c.args.name.now c.args.told) c.field_or.ensures.result_value c.field_or.ensures.ref_ptr_value c.field_or.ensures.number_after c.field_or.ensures.place_after
