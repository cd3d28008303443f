use Rattle.numbers.specs.Digits.{char_of}
use Rattle.octets.proofs.Kit.{kit}
use Rattle.output.proofs.digit_char.Goals as goal

pub returns-then-d-lt10 : goal.returns-then-d-lt10
unfolding char_of
returns-then-d-lt10 c = search kit

pub returns-else-d-lt10 : goal.returns-else-d-lt10
unfolding char_of
returns-else-d-lt10 c = search kit
