use mathlib.Core.Path.{sym, ◌∙◌}
use Rattle.numbers.proofs.IntegerForm.{has-form}
use Rattle.numbers.proofs.IntegerLaws.{int-length}
use Rattle.output.proofs.Room.{put-not, put-nothing, room_by}
use Rattle.output.proofs.put_int.Goals as goal

pub returns-then-n-eq0 : goal.returns-then-n-eq0
returns-then-n-eq0 c = put-nothing _ _ (int-length _) (sym c.int_len-n.ensures ∙ c.if-n-eq0.true)

pub lay_int-requires : goal.lay_int-requires
lay_int-requires c = (has-form _ (λ z. c.if-n-eq0.false (c.int_len-n.ensures ∙ z)), c.int_len-n.ensures, room_by _ _ _ c.lies_within.ensures c.if-lies_within.true)

pub returns : goal.returns
returns c = put-not (rw (sym c.int_len-n.ensures) (sym c.lies_within.ensures ∙ c.if-lies_within.false)) (int-length _)
