use mathlib.Core.Path.{sym, ◌∙◌}
use Rattle.numbers.proofs.DigitLaws.{digits-length}
use Rattle.output.proofs.Room.{put-not}
use Rattle.output.proofs.put_digits.Goals as goal

pub returns : goal.returns
returns c = put-not (rw (sym c.digit_count-k.ensures) (sym c.lies_within.ensures ∙ c.if-lies_within.false)) (digits-length _ _)
